-- A text is refused where the lexer stops.
use Rattle.std.specs.Prelude.{IsTrue, pos}
use Rattle.std.proofs.Common.{◌≡◌, ℕ, suc, ◌+◌, ◌<◌, ◌≤◌, ◌⊎◌, inl, inr, Bool, true, false, not, ◌&&◌, List, [], ◌∷◌, ◌++◌, Some, None, length, take, refl, sym, ap, ◌∙◌, subst, arith, append_assoc, ⊎_elim}
use Rattle.std.specs.Str.{IsUtf8}
use Rattle.std.proofs.Math.Seq.{take-append-add}
use Rattle.std.proofs.lemmas.Bool.{true≢false, false≢true}
use Rattle.std.proofs.lemmas.List.{append-nil, length-append, take_all}
use Rattle.term_tokens.specs.declared.cause.TermCause.{TermCause}
use Rattle.term_tokens.specs.declared.cause.TermCause.TheVariants as cause
use Rattle.elixir_terms.specs.declared.state.State.{State}
use Rattle.elixir_terms.specs.declared.state.State.TheVariants as state
use Rattle.term_values.specs.declared.term.Term.{Term}
use Rattle.term_values.specs.declared.term.Term.TheVariants as term
use Rattle.term_tokens.specs.declared.token.Token.{Token}
use Rattle.term_tokens.specs.declared.token.Token.TheVariants.{Atom, Int, Str, Words, Key, Open, Close, Comma, Arrow}
use Rattle.term_print.specs.Grammar.{IsTerm, atom as atom_term, string as string_term, integer as integer_term}
use Rattle.term_tokens.specs.Lexing.{past_blank}
use Rattle.term_tokens.specs.Local.{starts_with, is_plain, IsFree, takes, IsShut, Locally, charlist, sigil, heredoc, bits, interpolation, interpolated_words, float, alias_alone, alias, escape, escape_in_words, atom_utf8, key_utf8, number, colon_after, unclosed, unexpected, IsFirst}
use Rattle.elixir_terms.specs.Machine.{step, expected}
use Rattle.term_tokens.specs.Names.{is_blank}
use Rattle.elixir_terms.specs.Prefixes.{Leads, none as no_token, token as one_token, IsOpenText, StandsAt, TakesEither}
use Rattle.elixir_terms.specs.Refusals.{Holds}
use Rattle.elixir_terms.specs.Refusals as far
use Rattle.term_tokens.specs.Tokens.{is_colon, Begins, bare_atom, atom, quoted_atom, integer, string, words, key, quoted_key, opens, closes, comma, arrow, none, AreTokens}
use Rattle.elixir_terms.specs.Within.{longest}
use Rattle.elixir_terms.proofs.KeyTokens.{single_last}
use Rattle.term_tokens.proofs.BlankLemmas.{blanks_stop}
use Rattle.elixir_terms.proofs.SnagLemmas.{NotDone, HasRoomFor, fault_stop, fault_least}
use Rattle.term_tokens.proofs.NameLemmas.{test_from_ends, colon_ends}
use Rattle.term_tokens.proofs.BeginLemmas.{bare_named}
use Rattle.elixir_terms.proofs.Meaning.{Wants}
use Rattle.elixir_terms.proofs.OpenLemmas.{runs, start, passes, step_taken, key_expected, passed_back}
use Rattle.term_tokens.proofs.OptionLemmas.{some_same}
use Rattle.elixir_terms.proofs.PrefixLemmas.{AllSound, start_sound, trail_sound, step_open}
use Rattle.elixir_terms.proofs.Runs.{wants_end, wants_first, first_wants}
use Rattle.elixir_terms.proofs.ShutLemmas.{single_placed, no_more, taken, tied, front_shut}
use Rattle.elixir_terms.proofs.StopStates.{Stop}
use Rattle.elixir_terms.proofs.StopLemmas.{stop_open}
use Rattle.elixir_terms.proofs.TrailLemmas.{Trail, trail_solid, trail_runs, trail_leads, trail_fronts, behind}

-- the place of the rest
pub stands_of : {text : List ℕ} {tokens : List Token} {s : State} {rest : List ℕ} (at : ℕ) → Trail tokens start s text rest → at + length rest ≡ length text → StandsAt text at tokens rest
stands_of at trail place = record { leads = trail_leads trail; place = place }

pub at_zero : {text : List ℕ} (at : ℕ) (why : TermCause) → Holds text at why → Holds text (at + 0) why
at_zero {text = text} at why h = let e : at ≡ at + 0 = omega arith in subst (λ n. Holds text n why) e h

at_sum : {text : List ℕ} (at a b : ℕ) (why : TermCause) → Holds text (at + a + b) why → Holds text (at + (a + b)) why
at_sum {text = text} at a b why h = let e : at + a + b ≡ at + (a + b) = omega arith in subst (λ n. Holds text n why) e h

-- at the very beginning no token was read
first_none : (tokens : List Token) (s : State) → s ≡ state.Value [] → runs tokens start ≡ Some s → tokens ≡ []
first_none tokens s e ran =
    let zero_ = Int (pos 0) in
    let whole = first_wants (term.Int (pos 0)) (tokens ++ zero_ ∷ []) (passed_back (term.Int (pos 0)) tokens (zero_ ∷ []) start (state.Value []) (wants_first (term.Int (pos 0)) (zero_ ∷ []) integer_term) (ran ∙ ap Some e)) in
    single_last tokens zero_ whole refl refl

outer_first : (s : State) → (expected s).outermost ≡ true → s ≡ state.Value []
outer_first (state.Value []) e = refl
outer_first (state.Value (hole ∷ holes)) e = absurd (cc)
outer_first (state.Element frame holes) e = absurd (cc)
outer_first (state.Separator frame holes) e = absurd (cc)
outer_first (state.Arrow entry frame holes) e = absurd (cc)
outer_first (state.Done t) e = absurd (cc)

single_term : (word : List ℕ) (tok : Token) → is_plain word tok ≡ true → (t : Term) × IsTerm (tok ∷ []) t
single_term word (Atom name) p = (term.Atom name, atom_term)
single_term word (Str bytes) p = (term.Str bytes, string_term)
single_term word (Int n) p = absurd (cc)
single_term word (Words kind ws) p = absurd (cc)
single_term word (Key name) p = absurd (cc)
single_term word (Open kind) p = absurd (cc)
single_term word (Close closing) p = absurd (cc)
single_term word Comma p = absurd (cc)
single_term word Arrow p = absurd (cc)

colon_cut : (text : List ℕ) → is_colon (58 ∷ text) ≡ true → (blank : ℕ) × (more : List ℕ) × (text ≡ blank ∷ more) × IsTrue (is_blank blank)
colon_cut [] e = absurd (cc)
colon_cut (blank ∷ more) e = (blank, more, refl, e)

-- with a colon behind it that is no keyword's
plain_begins : {word : List ℕ} {tok : Token} {none_ : List ℕ} (more : List ℕ) → Begins word tok none_ → none_ ≡ [] → is_plain word tok ≡ true → is_colon (58 ∷ more) ≡ false → Begins (word ++ 58 ∷ more) tok (58 ∷ more)
plain_begins more (bare_atom {name = name} {rest = rest} b ends colon e) n p c =
    let same = e ∙ ap (λ l. name ++ l) n ∙ append-nil name in
    bare_atom b (test_from_ends name (58 ∷ more) (colon_ends name more (bare_named name b))) c (ap (λ l. l ++ 58 ∷ more) same)
plain_begins more (string {inside = inside} {rest = rest} q colon e) n p c =
    let same = e ∙ ap (λ l. 34 ∷ inside ++ 34 ∷ l) n in
    string q c (ap (λ l. l ++ 58 ∷ more) same ∙ ap (λ l. 34 ∷ l) (append_assoc inside (34 ∷ []) (58 ∷ more)))
plain_begins more (atom a b e) n p c = absurd (false≢true (sym (ap (λ l. not (starts_with 58 l)) e) ∙ p))
plain_begins more (quoted_atom a b e) n p c = absurd (false≢true (sym (ap (λ l. not (starts_with 58 l)) e) ∙ p))
plain_begins more (integer a b e) n p c = absurd (false≢true p)
plain_begins more (words a b d f g) n p c = absurd (false≢true p)
plain_begins more (key white a b d) n p c = absurd (false≢true p)
plain_begins more (quoted_key white a b d f) n p c = absurd (false≢true p)
plain_begins more (opens a) n p c = absurd (false≢true p)
plain_begins more (closes a) n p c = absurd (false≢true p)
plain_begins more (comma a) n p c = absurd (false≢true p)
plain_begins more (arrow a) n p c = absurd (false≢true p)

colon_holds : {text : List ℕ} {rest : List ℕ} {tokens : List Token} (at : ℕ) (word more : List ℕ) (tok : Token) → StandsAt text at tokens rest → tokens ≡ [] → Begins word tok [] → is_plain word tok ≡ true → rest ≡ word ++ 58 ∷ more → Holds text (at + length word) cause.TrailingText
colon_holds {text = text} {rest = rest} at word more tok stands none_ begins plain e = by (is_colon (58 ∷ more)) refl
  where
    first : StandsAt text at [] rest
    first = subst (λ ts. StandsAt text at ts rest) none_ stands

    leads_to : Leads [] text rest → Begins rest tok (58 ∷ more) → Leads (tok ∷ []) text (58 ∷ more)
    leads_to (no_token b) begins = one_token b begins (no_token none)

    by : (c : Bool) → is_colon (58 ∷ more) ≡ c → Holds text (at + length word) cause.TrailingText
    by true c = let k = colon_cut more c in far.trailing_colon k.0 k.1 first begins plain k.3 (e ∙ ap (λ l. word ++ 58 ∷ l) k.2)
    by false c =
        let b : Begins rest tok (58 ∷ more) = subst (λ l. Begins l tok (58 ∷ more)) (sym e) (plain_begins more begins refl plain c) in
        let t = single_term word tok plain in
        let x = first.place in
        far.trailing (record { leads = leads_to first.leads b; place = omega (arith, ap length e, length-append word (58 ∷ more)) }) t.1 refl

takes_either : (tokens : List Token) (s : State) → runs tokens start ≡ Some s → AllSound s → IsTrue (expected s).term ⊎ IsTrue (expected s).key → TakesEither tokens
takes_either tokens s ran sound x = ⊎_elim (λ t. inl (step_open tokens s (Int (pos 0)) ran sound t)) (λ k. inr (step_open tokens s (Key []) ran sound k)) x

-- where no token goes on, the text is none of the grammar
pub no_whole : {text : List ℕ} (tokens : List Token) (s : State) (rest : List ℕ) → Trail tokens start s text rest → NotDone s → ((tok : Token) (after : List ℕ) → Begins rest tok after → IsTrue (takes (expected s) tok) → IsFree rest tok after → ⊥) → (all : List Token) (t : Term) → AreTokens all text → IsTerm all t → ⊥
no_whole {text = text} tokens s rest trail open_ none_ all t spelled grammar =
    let b = behind all (trail_leads trail) spelled in
    let p = passes t tokens b.others start (subst (λ l. Wants t start l) b.split (wants_first t all grammar)) in
    let here : p.last ≡ s = some_same (sym p.ran ∙ trail_runs trail) in
    ends b.others b.spelled (subst (λ x. Wants t x b.others) here p.wanted)
  where
    ends : (os : List Token) → AreTokens os rest → Wants t s os → ⊥
    ends [] h w = open_ t (wants_end t s w)
    ends (tok ∷ os) h w =
        let at : rest ≡ h.0 = blanks_stop h.0 (trail_solid trail) h.2 in
        let begins : Begins rest tok h.1 = subst (λ l. Begins l tok h.1) (sym at) h.3 in
        let k = taken t s tok os w in
        by k.next k.stepped k.wanted begins (is_plain rest tok && starts_with 58 h.1) refl
      where
        by : (next : State) → step s tok ≡ Some next → Wants t next os → Begins rest tok h.1 → (c : Bool) → (is_plain rest tok && starts_with 58 h.1) ≡ c → ⊥
        by next stepped wanted begins false free = none_ tok h.1 begins (step_taken s tok next stepped) free
        by next stepped wanted begins true c = let d = tied rest tok h.1 c in no_more t next h.1 58 d.more os (single_placed s tok next d.single stepped) d.colon (subst (λ l. past_blank l ≡ None) (sym d.colon) refl) refl h.4 wanted

shut_more : {text : List ℕ} {tokens : List Token} {rest : List ℕ} (at k : ℕ) (s : State) → Trail tokens start s text rest → at + length rest ≡ length text → (l : List ℕ) → rest ≡ l → k < length l → IsShut (expected s) (take (suc k) l) → IsOpenText (take (suc (at + k)) text) → ⊥
shut_more at k s trail place [] e l shut o = omega arith
shut_more {text = text} {rest = rest} at k s trail place (byte ∷ others) e l shut o =
    let f = trail_fronts trail in
    let size : length f.front ≡ at = omega (arith, ap length f.split, length-append f.front rest) in
    let up : suc (at + k) ≡ length f.front + suc k = omega arith in
    let cut : take (suc (at + k)) text ≡ f.front ++ byte ∷ take k others = ap (λ n. take n text) up ∙ ap (take (length f.front + suc k)) f.split ∙ take-append-add f.front rest (suc k) ∙ ap (λ x. f.front ++ take (suc k) x) e in
    front_shut s f byte (take k others) others (trail_runs trail) e (trail_solid trail) shut (subst IsOpenText cut o)

-- what holds locally where the reading stopped, holds of the text
fault_holds : {text : List ℕ} {tokens : List Token} {s : State} {rest : List ℕ} (at : ℕ) {k : ℕ} {why : TermCause} → Trail tokens start s text rest → NotDone s → at + length rest ≡ length text → Stop text tokens s rest at k why → runs tokens start ≡ Some s → AllSound s → Locally (expected s) rest k why → Holds text (at + k) why
fault_holds at trail open_ place stop ran sound (charlist x) = at_zero at _ (far.charlist (stands_of at trail place) (step_open _ _ (Int (pos 0)) ran sound x))
fault_holds at trail open_ place stop ran sound (sigil x a b c) = at_zero at _ (far.sigil (stands_of at trail place) (step_open _ _ (Int (pos 0)) ran sound x) a b c)
fault_holds at trail open_ place stop ran sound (heredoc x) = at_zero at _ (far.heredoc (stands_of at trail place) (step_open _ _ (Int (pos 0)) ran sound x))
fault_holds at trail open_ place stop ran sound (bits x) = at_zero at _ (far.bits (stands_of at trail place) (step_open _ _ (Int (pos 0)) ran sound x))
fault_holds {tokens = tokens} {s = s} at trail open_ place stop ran sound (interpolation {opening = opening} {inside = inside} more x o q e) = at_sum at (length opening) (length inside) _ (far.interpolation more (stands_of at trail place) (takes_either tokens s ran sound x) o q e)
fault_holds at trail open_ place stop ran sound (interpolated_words inside more x i e) = at_sum at 3 (length inside) _ (far.interpolated_words inside more (stands_of at trail place) (step_open _ _ (Int (pos 0)) ran sound x) i e)
fault_holds at trail open_ place stop ran sound (float digit more x d g e) = far.float digit more (stands_of at trail place) (step_open _ _ (Int (pos 0)) ran sound x) d g e
fault_holds {tokens = tokens} {s = s} at trail open_ place stop ran sound (alias_alone x k c) = at_zero at _ (far.alias_alone (stands_of at trail place) (step_open _ _ (Int (pos 0)) ran sound x) (λ takes_. true≢false (sym (key_expected tokens s ran takes_) ∙ k)) c)
fault_holds {tokens = tokens} {s = s} at trail open_ place stop ran sound (alias byte name more x c n ends colon e) = at_zero at _ (far.alias byte name more (stands_of at trail place) (takes_either tokens s ran sound x) c n ends colon e)
fault_holds {tokens = tokens} {s = s} at trail open_ place stop ran sound (escape {opening = opening} {inside = inside} more x o q e lacks) = at_sum at (length opening) (length inside) _ (far.escape more (stands_of at trail place) (takes_either tokens s ran sound x) o q e lacks)
fault_holds at trail open_ place stop ran sound (escape_in_words inside more x i e) = at_sum at 3 (length inside) _ (far.escape_in_words inside more (stands_of at trail place) (step_open _ _ (Int (pos 0)) ran sound x) i e)
fault_holds {text = text} at trail open_ place stop ran sound (atom_utf8 more x q u e) = let up : suc at ≡ at + 1 = omega arith in subst (λ n. Holds text n cause.BadUtf8) up (far.atom_utf8 more (stands_of at trail place) (step_open _ _ (Int (pos 0)) ran sound x) q u e)
fault_holds at trail open_ place stop ran sound (key_utf8 white more x q u b e) = at_zero at _ (far.key_utf8 white more (stands_of at trail place) (step_open _ _ (Key []) ran sound x) q u b e)
fault_holds at trail open_ place stop ran sound (number x b w) = at_zero at _ (far.number (stands_of at trail place) (step_open _ _ (Int (pos 0)) ran sound x) b w)
fault_holds {tokens = tokens} {s = s} at trail open_ place stop ran sound (colon_after {word = word} more {token = tok} x b p e) = colon_holds at word more tok (stands_of at trail place) (first_none tokens s (outer_first s x) ran) b p e
fault_holds {text = text} {tokens = tokens} {s = s} {rest = rest} at trail open_ place stop ran sound (unclosed part none_) =
    let o = stop_open stop in
    let whole : take (at + length rest) text ≡ text = ap (λ n. take n text) place ∙ take_all (length text) text (omega arith) in
    subst (λ n. Holds text n cause.Unclosed) (sym place) (far.unclosed (subst IsOpenText whole o) (λ all t spelled grammar. no_whole tokens s rest trail open_ none_ all t spelled grammar))
fault_holds {text = text} {tokens = tokens} {s = s} {rest = rest} at {k = k} trail open_ place stop ran sound (unexpected l part shut) =
    far.unexpected (omega arith) (stop_open stop) (λ o. shut_more at k s trail place rest refl l shut o)

pub fault_refusal : {text : List ℕ} {tokens : List Token} {s : State} {rest : List ℕ} (at k : ℕ) (why : TermCause) → length text ≤ longest → IsUtf8 text → Trail tokens start s text rest → NotDone s → at + length rest ≡ length text → IsFirst (expected s) rest k why → HasRoomFor s rest → far.IsRefusal text (at + k) why
fault_refusal at k why short utf8 trail open_ place first room =
    far.first short utf8 (fault_holds at trail open_ place (fault_stop at k why trail open_ place first room) (trail_runs trail) (trail_sound trail start_sound) first.holds) (fault_least at k why trail open_ place first room)
