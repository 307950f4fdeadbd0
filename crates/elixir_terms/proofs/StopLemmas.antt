-- What holds of a text holds no earlier than where the reading stops.
use Rattle.std.specs.Prelude.{IsTrue, pos}
use Rattle.std.proofs.Common.{◌≡◌, ℕ, zero, suc, ◌+◌, ◌<◌, ◌≤◌, ◌⊎◌, inl, inr, false, List, [], ◌∷◌, ◌++◌, Some, None, length, take, drop, refl, sym, ap, ◌∙◌, subst, arith, ⊎_elim}
use Rattle.std.proofs.lemmas.List.{append-nil, length-append, take-append-drop, take-append-le, length-take-le}
use Rattle.std.proofs.lemmas.Bool.{cases_lt}
use Rattle.std.proofs.Math.Nat.{eq-or-lt_of_le}
use Rattle.std.proofs.Math.Seq.{take-append-add}
use Rattle.term_tokens.specs.declared.cause.TermCause.{TermCause}
use Rattle.term_tokens.specs.declared.cause.TermCause.TheVariants as cause
use Rattle.elixir_terms.specs.declared.state.State.{State}
use Rattle.elixir_terms.specs.declared.state.State.TheVariants as state
use Rattle.term_values.specs.declared.term.Term.{Term}
use Rattle.term_tokens.specs.declared.token.Token.{Token}
use Rattle.term_tokens.specs.declared.token.WordKind.TheVariants.{Strings}
use Rattle.term_tokens.specs.declared.token.Token.TheVariants.{Int, Words, Key}
use Rattle.term_print.specs.Grammar.{IsTerm}
use Rattle.term_tokens.specs.Lexing.{past_blank}
use Rattle.term_tokens.specs.Local as near
use Rattle.term_tokens.specs.Local.{is_plain, Locally}
use Rattle.elixir_terms.specs.Machine.{step, expected}
use Rattle.elixir_terms.specs.Prefixes.{AreOpen, IsOpenText, StandsAt, TakesEither}
use Rattle.elixir_terms.specs.Refusals.{AreTooDeep, IsStarted, whole_token, open_words, Holds, charlist, sigil, heredoc, bits, interpolation, interpolated_words, float, alias_alone, alias, escape, escape_in_words, atom_utf8, key_utf8, number, deep, repeated, trailing, trailing_colon, unclosed, unexpected}
use Rattle.term_tokens.specs.Tokens.{Begins}
use Rattle.term_tokens.proofs.CalmLemmas.{decimal_begins}
use Rattle.term_tokens.proofs.FollowLemmas.{Like, same}
use Rattle.elixir_terms.proofs.OpenLemmas.{runs, start, step_taken, passes, term_expected, key_expected}
use Rattle.term_tokens.proofs.OptionLemmas.{none_some, some_same}
use Rattle.elixir_terms.proofs.PlaceLemmas.{leads_shorter, Past, Meets, within, there, behind, meets}
use Rattle.elixir_terms.proofs.PrefixLemmas.{AllSound, start_sound, trail_sound, part_open}
use Rattle.elixir_terms.proofs.Runs.{wants_end, wants_first}
use Rattle.elixir_terms.proofs.ShutLemmas.{is_joint, joint_byte, IsPlaced, single_placed, second_joint, solid_like}
use Rattle.elixir_terms.proofs.StartLemmas.{started_solid, started_like, small_not_deep}
use Rattle.term_tokens.proofs.TokenLaws.{begins_solid, begins_shorter}
use Rattle.elixir_terms.proofs.TrailLemmas.{trail_runs, trail_fronts}
use Rattle.elixir_terms.proofs.StopStates.{Near, Repeats, Beyond, Verdict, early, joined, Stop, either_expected, opening_solid, start_solid, capital_start, key_refused, open_less, Went, went, Last, last_of, none_behind, not_joint}

-- a place behind the first token that was not read
further : {tokens others : List Token} {rest place : List ℕ} {all : ℕ} (at here : ℕ) (b : Past tokens rest others place) → at + length rest ≡ all → here + length place ≡ all → at < here
further at here b x y = let a = begins_shorter b.begins in let c = leads_shorter b.leads in omega arith

pub early_beyond : {tokens others : List Token} {rest place : List ℕ} {all : ℕ} (at here k j : ℕ) (why other : TermCause) (where_ : ℕ) (b : Past tokens rest others place) → at + length rest ≡ all → here + length place ≡ all → k ≡ 0 → where_ ≡ here + j → Beyond (at + k) why where_ other
early_beyond at here k j why other where_ b x y z e = let f = further at here b x y in inl (omega arith)

lifted : (at here k j where_ : ℕ) (why other : TermCause) → at ≡ here → where_ ≡ here + j → Beyond k why j other → Beyond (at + k) why where_ other
lifted at here k j where_ why other e f b = ⊎_elim (λ l. inl (omega arith)) (λ l. let same_ = l.0 in inr (omega arith, l.1)) b

near_behind : {text : List ℕ} {tokens : List Token} {s : State} {rest : List ℕ} {at k : ℕ} {why : TermCause} (place : ℕ) (other : TermCause) (stop : Stop text tokens s rest at k why) (n : Near text place other) (x : Token) → is_joint x ≡ false → AreOpen (n.tokens ++ x ∷ []) → Past tokens rest n.tokens n.rest → Beyond (at + k) why place other
near_behind {text = text} {tokens = tokens} {s = s} {rest = rest} {at = at} {k = k} {why = why} place other stop n x j open_ b =
    let l = last_of n.tokens x open_ in
    let w = went tokens b.tok b.more s l.last (trail_runs stop.trail) (subst (λ ts. runs ts start ≡ Some l.last) b.split l.ran) in
    by l w (stop.tells b.tok b.after b.begins (step_taken s b.tok w.next w.stepped))
  where
    by : (l : Last n.tokens x) (w : Went s b.tok b.more l.last) → Verdict s rest k why b.tok b.after → Beyond (at + k) why place other
    by l w (early z) = early_beyond at n.at k n.k why other place b stop.place n.stands.place z n.same
    by l w (joined byte more single e solid unlike _) =
        let p = single_placed s b.tok w.next single w.stepped in
        let q = none_behind w.next l.last byte more p e solid unlike b.leads w.ran in
        absurd (not_joint w.next l.next x p j (subst (λ y. step y x ≡ Some l.next) q.0 l.stepped))

near_beyond : {text : List ℕ} {tokens : List Token} {s : State} {rest : List ℕ} {at k : ℕ} {why : TermCause} (place : ℕ) (other : TermCause) → Stop text tokens s rest at k why → Near text place other → Beyond (at + k) why place other
near_beyond {text = text} {tokens = tokens} {s = s} {rest = rest} {at = at} {k = k} {why = why} place other stop n = by (meets n.tokens n.rest stop.trail start_sound n.stands.leads n.solid)
  where
    by : Meets tokens start s rest n.tokens n.rest → Beyond (at + k) why place other
    by (within i) = absurd (i.stood.calm n.k other (n.local i.here i.ran i.sound))
    by (there e p) =
        let ran : runs n.tokens start ≡ Some s = subst (λ ts. runs ts start ≡ Some s) (sym e) (trail_runs stop.trail) in
        let local = subst (λ l. Locally (expected s) l n.k other) p (n.local s ran (trail_sound stop.trail start_sound)) in
        let x = stop.place in
        let y = n.stands.place in
        let z = ap length p in
        lifted at n.at k n.k place why other (omega arith) n.same (stop.first n.k other local)
    by (behind b) = ⊎_elim (λ t. near_behind place other stop n (Int (pos 0)) refl t b) (λ t. near_behind place other stop n (Key []) refl t b) n.wants

deep_beyond : {text rest : List ℕ} {tokens : List Token} {s : State} {at k : ℕ} {why : TermCause} (stop : Stop text tokens s rest at k why) (here : ℕ) (others : List Token) (place : List ℕ) (tok : Token) → StandsAt text here others place → IsStarted place tok → AreTooDeep (others ++ tok ∷ []) → Beyond (at + k) why here cause.TooDeep
deep_beyond {text = text} {rest = rest} {tokens = tokens} {s = s} {at = at} {k = k} {why = why} stop here others place tok stands started too = by (meets others place stop.trail start_sound stands.leads (started_solid started))
  where
    by : Meets tokens start s rest others place → Beyond (at + k) why here cause.TooDeep
    by (within i) =
        let like = started_like i.here i.stood.begins (step_taken i.here i.tok i.next i.stood.stepped) i.stood.well started in
        absurd (small_not_deep others i.here tok i.ran i.sound like.0 like.1 too)
    by (there e p) =
        let d = stop.deep_here tok (subst (λ l. IsStarted l tok) p started) (subst (λ ts. AreTooDeep (ts ++ tok ∷ [])) e too) in
        let x = stop.place in
        let y = stands.place in
        let z = ap length p in
        let nil = d.0 in
        inr (omega arith, d.1)
    by (behind b) =
        let l = last_of others tok too.begins in
        let w = went tokens b.tok b.more s l.last (trail_runs stop.trail) (subst (λ ts. runs ts start ≡ Some l.last) b.split l.ran) in
        told b l w (stop.tells b.tok b.after b.begins (step_taken s b.tok w.next w.stepped))
      where
        told : (b : Past tokens rest others place) (l : Last others tok) (w : Went s b.tok b.more l.last) → Verdict s rest k why b.tok b.after → Beyond (at + k) why here cause.TooDeep
        told b l w (early z) = early_beyond at here k 0 why cause.TooDeep here b stop.place stands.place z (omega arith)
        told b l w (joined byte more single e solid unlike _) =
            let p = single_placed s b.tok w.next single w.stepped in
            let q = none_behind w.next l.last byte more p e solid unlike b.leads w.ran in
            no_start w.next l.next byte more p e unlike started (q.1 (started_solid started)) (subst (λ y. step y tok ≡ Some l.next) q.0 l.stepped)
          where
            no_start : {x : Token} (placed_ next : State) (byte : ℕ) (more : List ℕ) → IsPlaced placed_ → b.after ≡ byte ∷ more → joint_byte byte ≡ false → IsStarted place x → place ≡ b.after → step placed_ x ≡ Some next → Beyond (at + k) why here cause.TooDeep
            no_start {x = x} placed_ next byte more p e unlike (whole_token {after = after} begins) same_ stepped = absurd (second_joint placed_ next byte more p e unlike (subst (λ l. Begins l x after) same_ begins) stepped)
            no_start placed_ next byte more p e unlike (open_words text e_) same_ stepped = absurd (not_joint placed_ next (Words Strings []) p refl stepped)

-- a whole term, and more
pub whole_last : (others : List Token) (t : Term) → IsTerm others t → runs others start ≡ Some (state.Done t)
whole_last others t h =
    let p = passes t others [] start (wants_first t (others ++ []) (subst (λ l. IsTerm l t) (sym (append-nil others)) h)) in
    p.ran ∙ ap Some (wants_end t p.last p.wanted)

done_stuck : (t : Term) (tok : Token) (s next : State) → s ≡ state.Done t → step s tok ≡ Some next → ⊥
done_stuck t tok s next e h = none_some (subst (λ x. step x tok ≡ Some next) e h)

trailing_beyond : {text rest : List ℕ} {tokens : List Token} {s : State} {at k : ℕ} {why : TermCause} (stop : Stop text tokens s rest at k why) (here byte : ℕ) (others : List Token) (more : List ℕ) (t : Term) → StandsAt text here others (byte ∷ more) → IsTerm others t → past_blank (byte ∷ more) ≡ None → Beyond (at + k) why here cause.TrailingText
trailing_beyond {text = text} {rest = rest} {tokens = tokens} {s = s} {at = at} {k = k} {why = why} stop here byte others more t stands term_ solid = by (meets others (byte ∷ more) stop.trail start_sound stands.leads solid)
  where
    by : Meets tokens start s rest others (byte ∷ more) → Beyond (at + k) why here cause.TrailingText
    by (within i) = absurd (done_stuck t i.tok i.here i.next (some_same (sym i.ran ∙ whole_last others t term_)) i.stood.stepped)
    by (there e p) =
        let done : s ≡ state.Done t = some_same (sym (trail_runs stop.trail) ∙ subst (λ ts. runs ts start ≡ Some (state.Done t)) e (whole_last others t term_)) in
        let x = stop.place in
        let y = stands.place in
        let z = ap length p in
        ⊎_elim (λ n. absurd (some_rest p n)) (λ d. let nil = d.0 in inr (omega arith, d.1)) (stop.done_here t done)
      where
        some_rest : byte ∷ more ≡ rest → rest ≡ [] → ⊥
        some_rest p n = cc
    by (behind b) =
        let w = went tokens b.tok b.more s (state.Done t) (trail_runs stop.trail) (subst (λ ts. runs ts start ≡ Some (state.Done t)) b.split (whole_last others t term_)) in
        told b w (stop.tells b.tok b.after b.begins (step_taken s b.tok w.next w.stepped))
      where
        told : (b : Past tokens rest others (byte ∷ more)) (w : Went s b.tok b.more (state.Done t)) → Verdict s rest k why b.tok b.after → Beyond (at + k) why here cause.TrailingText
        told b w (early z) = early_beyond at here k 0 why cause.TrailingText here b stop.place stands.place z (omega arith)
        told b w (joined first others_ single e there_ unlike ends) =
            let p = single_placed s b.tok w.next single w.stepped in
            let q = none_behind w.next (state.Done t) first others_ p e there_ unlike b.leads w.ran in
            let r = ends t (w.stepped ∙ ap Some (sym q.0)) in
            let x = stop.place in
            let y = stands.place in
            let z = ap length (q.1 solid) in
            ⊎_elim (λ l. inl (omega arith)) (λ l. let f = l.0 in inr (omega arith, l.1)) r

pub some_token : {word : List ℕ} {tok : Token} → Begins word tok [] → (byte : ℕ) × (more : List ℕ) × (word ≡ byte ∷ more)
some_token {word = word} h = by word (begins_shorter h)
  where
    by : (w : List ℕ) → length {A = ℕ} [] < length w → (byte : ℕ) × (more : List ℕ) × (w ≡ byte ∷ more)
    by [] l = absurd (omega arith)
    by (byte ∷ more) l = (byte, more, refl)

word_solid : {word : List ℕ} {tok : Token} → Begins word tok [] → (tail : List ℕ) → past_blank (word ++ tail) ≡ None
word_solid {word = word} h tail =
    let f = some_token h in
    let own : past_blank (f.0 ∷ f.1) ≡ None = subst (λ l. past_blank l ≡ None) f.2 (begins_solid h) in
    subst (λ l. past_blank (l ++ tail) ≡ None) (sym f.2) (solid_like f.0 f.1 (f.1 ++ tail) own)

colon_beyond : {text rest : List ℕ} {tokens : List Token} {s : State} {at k : ℕ} {why : TermCause} (stop : Stop text tokens s rest at k why) (here blank : ℕ) (place word more : List ℕ) (tok : Token) → StandsAt text here [] place → Begins word tok [] → IsTrue (is_plain word tok) → place ≡ word ++ 58 ∷ blank ∷ more → Beyond (at + k) why (here + length word) cause.TrailingText
colon_beyond {text = text} {rest = rest} {tokens = tokens} {s = s} {at = at} {k = k} {why = why} stop here white place word more tok stands begins plain e = by (meets [] place stop.trail start_sound stands.leads (subst (λ l. past_blank l ≡ None) (sym e) (word_solid begins (58 ∷ white ∷ more))))
  where
    local : Locally (expected start) place (length word) cause.TrailingText
    local = near.colon_after (white ∷ more) refl begins plain e

    by : Meets tokens start s rest [] place → Beyond (at + k) why (here + length word) cause.TrailingText
    by (within i) = let first : i.here ≡ start = sym (some_same i.ran) in absurd (i.stood.calm (length word) cause.TrailingText (subst (λ x. Locally (expected x) place (length word) cause.TrailingText) (sym first) local))
    by (there n p) =
        let first : start ≡ s = some_same (subst (λ ts. runs ts start ≡ Some s) (sym n) (trail_runs stop.trail)) in
        let x = stop.place in
        let y = stands.place in
        let z = ap length p in
        lifted at here k (length word) (here + length word) why cause.TrailingText (omega arith) refl
        (stop.first (length word) cause.TrailingText (subst (λ l. Locally (expected s) l (length word) cause.TrailingText) p (subst (λ x. Locally (expected x) place (length word) cause.TrailingText) first local)))
    by (behind b) = absurd (no_split tokens b.tok b.more b.split)
      where
        no_split : (xs : List Token) (t : Token) (ys : List Token) → [] ≡ xs ++ t ∷ ys → ⊥
        no_split [] t ys e = cc
        no_split (x ∷ xs) t ys e = cc

unclosed_beyond : {text rest : List ℕ} {tokens : List Token} {s : State} {at k : ℕ} {why : TermCause} → Stop text tokens s rest at k why → Beyond (at + k) why (length text) cause.Unclosed
unclosed_beyond stop = let x = stop.place in ⊎_elim (λ e. inr (omega arith, stop.end_rank e)) (λ l. inl (omega arith)) (eq-or-lt_of_le stop.within_rest)

part_like : (rest more : List ℕ) (k : ℕ) → (take k rest ≡ []) ⊎ Like rest (take k rest ++ more)
part_like rest more zero = inl refl
part_like [] more (suc k) = inl refl
part_like (byte ∷ rest) more (suc k) = inr (same byte)

-- what was read up to the stop is an open prefix
pub stop_open : {text rest : List ℕ} {tokens : List Token} {s : State} {at k : ℕ} {why : TermCause} → Stop text tokens s rest at k why → IsOpenText (take (at + k) text)
stop_open {text = text} {rest = rest} {s = s} {at = at} {k = k} stop =
    let f = trail_fronts stop.trail in
    let x = stop.place in
    let size : length f.front ≡ at = omega (arith, ap length f.split, length-append f.front rest) in
    let cut : take (at + k) text ≡ f.front ++ take k rest = ap (λ n. take (n + k) text) (sym size) ∙ ap (take (length f.front + k)) f.split ∙ take-append-add f.front rest k in
    subst IsOpenText (sym cut) (part_open s f (take k rest) (trail_runs stop.trail) (trail_sound stop.trail start_sound) stop.part (λ more. part_like rest more k))

take_less : (text : List ℕ) (m n : ℕ) → m ≤ n → n ≤ length text → take m (take n text) ≡ take m text
take_less text m n h l = sym (take-append-le m (take n text) (drop n text) (omega (arith, length-take-le n text l))) ∙ ap (take m) (take-append-drop n text)

unexpected_beyond : {text rest : List ℕ} {tokens : List Token} {s : State} {at k : ℕ} {why : TermCause} → Stop text tokens s rest at k why → (here : ℕ) → (IsOpenText (take (suc here) text) → ⊥) → Beyond (at + k) why here cause.Unexpected
unexpected_beyond {text = text} {rest = rest} {at = at} {k = k} stop here shut =
    ⊎_elim (λ l. absurd (shut (less l))) (λ l. ⊎_elim (λ e. inr (e, stop.most_rank)) (λ m. inl m) (eq-or-lt_of_le l)) (cases_lt here (at + k))
  where
    less : here < at + k → IsOpenText (take (suc here) text)
    less l =
        let x = stop.place in
        let w = stop.within_rest in
        let cut : take (suc here) (take (at + k) text) ++ drop (suc here) (take (at + k) text) ≡ take (at + k) text = take-append-drop (suc here) (take (at + k) text) in
        subst IsOpenText (take_less text (suc here) (at + k) (omega arith) (omega arith)) (open_less (take (suc here) (take (at + k) text)) (drop (suc here) (take (at + k) text)) (subst IsOpenText (sym cut) (stop_open stop)))

near_of : {text rest : List ℕ} {at place : ℕ} {why : TermCause} {tokens : List Token} → StandsAt text at tokens rest → (k : ℕ) → past_blank rest ≡ None → place ≡ at + k → TakesEither tokens → ((s : State) → runs tokens start ≡ Some s → AllSound s → Locally (expected s) rest k why) → Near text place why
near_of {rest = rest} {at = at} {tokens = tokens} stands k solid sum wants local = record { at = at; tokens = tokens; rest = rest; k = k; stands = stands; solid = solid; same = sum; wants = wants; local = local }

-- all that holds does so no earlier, but perhaps for a key that comes again
pub stop_beyond : {text rest : List ℕ} {tokens : List Token} {s : State} {at k : ℕ} {why : TermCause} {place : ℕ} {other : TermCause} → Stop text tokens s rest at k why → Holds text place other → ((other ≡ cause.DuplicateKey) × Repeats text place) ⊎ Beyond (at + k) why place other
stop_beyond {place = place} {other = other} stop (charlist {at = here} stands t) = inr (near_beyond place other stop (near_of stands (0) (refl) (omega arith) (inl t) (λ s ran sound. near.charlist (term_expected _ s ran t))))
stop_beyond {place = place} {other = other} stop (sigil {at = here} stands t a b c) = inr (near_beyond place other stop (near_of stands (0) (refl) (omega arith) (inl t) (λ s ran sound. near.sigil (term_expected _ s ran t) a b c)))
stop_beyond {place = place} {other = other} stop (heredoc {at = here} stands t) = inr (near_beyond place other stop (near_of stands (0) (refl) (omega arith) (inl t) (λ s ran sound. near.heredoc (term_expected _ s ran t))))
stop_beyond {place = place} {other = other} stop (bits {at = here} stands t) = inr (near_beyond place other stop (near_of stands (0) (refl) (omega arith) (inl t) (λ s ran sound. near.bits (term_expected _ s ran t))))
stop_beyond {place = place} {other = other} stop (interpolation {opening = opening} {inside = inside} more {at = here} stands t o q e) = inr (near_beyond place other stop (near_of stands (length opening + length inside) (subst (λ l. past_blank l ≡ None) (sym e) (opening_solid opening (inside ++ 35 ∷ 123 ∷ more) o)) (omega arith) (t) (λ s ran sound. near.interpolation more (either_expected _ s ran t) o q e)))
stop_beyond {place = place} {other = other} stop (interpolated_words inside more {at = here} stands t i e) = inr (near_beyond place other stop (near_of stands (3 + length inside) (subst (λ l. past_blank l ≡ None) (sym e) refl) (omega arith) (inl t) (λ s ran sound. near.interpolated_words inside more (term_expected _ s ran t) i e)))
stop_beyond {place = place} {other = other} stop (float {word = word} digit more {at = here} stands t d g e) = inr (near_beyond place other stop (near_of stands (length word) (subst (λ l. past_blank l ≡ None) (sym e) (begins_solid (decimal_begins word (digit ∷ more) d).1)) (refl) (inl t) (λ s ran sound. near.float digit more (term_expected _ s ran t) d g e)))
stop_beyond {place = place} {other = other} stop (alias_alone {more = more} {byte = byte} {at = here} {tokens = tokens} stands t no_key c) = inr (near_beyond place other stop (near_of stands (0) (start_solid byte more (capital_start byte c)) (omega arith) (inl t) (λ s ran sound. near.alias_alone (term_expected _ s ran t) (key_refused tokens s ran sound no_key) c)))
stop_beyond {place = place} {other = other} stop (alias byte name more {at = here} stands t c n ends colon e) = inr (near_beyond place other stop (near_of stands (0) (subst (λ l. past_blank l ≡ None) (sym e) (start_solid byte (name ++ more) (capital_start byte c))) (omega arith) (t) (λ s ran sound. near.alias byte name more (either_expected _ s ran t) c n ends colon e)))
stop_beyond {place = place} {other = other} stop (escape {opening = opening} {inside = inside} more {at = here} stands t o q e lacks) = inr (near_beyond place other stop (near_of stands (length opening + length inside) (subst (λ l. past_blank l ≡ None) (sym e) (opening_solid opening (inside ++ 92 ∷ more) o)) (omega arith) (t) (λ s ran sound. near.escape more (either_expected _ s ran t) o q e lacks)))
stop_beyond {place = place} {other = other} stop (escape_in_words inside more {at = here} stands t i e) = inr (near_beyond place other stop (near_of stands (3 + length inside) (subst (λ l. past_blank l ≡ None) (sym e) refl) (omega arith) (inl t) (λ s ran sound. near.escape_in_words inside more (term_expected _ s ran t) i e)))
stop_beyond {place = place} {other = other} stop (atom_utf8 more {at = here} stands t q u e) = inr (near_beyond place other stop (near_of stands (1) (subst (λ l. past_blank l ≡ None) (sym e) refl) (omega arith) (inl t) (λ s ran sound. near.atom_utf8 more (term_expected _ s ran t) q u e)))
stop_beyond {place = place} {other = other} stop (key_utf8 white more {at = here} stands t q u b e) = inr (near_beyond place other stop (near_of stands (0) (subst (λ l. past_blank l ≡ None) (sym e) refl) (omega arith) (inr t) (λ s ran sound. near.key_utf8 white more (key_expected _ s ran t) q u b e)))
stop_beyond {place = place} {other = other} stop (number {at = here} stands t b w) = inr (near_beyond place other stop (near_of stands (0) (begins_solid b) (omega arith) (inl t) (λ s ran sound. near.number (term_expected _ s ran t) b w)))
stop_beyond stop (deep {rest = place} {token = tok} {at = here} {tokens = others} stands begins too) = inr (deep_beyond stop here others place tok stands begins too)
stop_beyond stop (repeated {rest = place} outer inside {keys = keys} {key = key} stands starts pairs ahead again) = inl (refl, record { rest = place; outer = outer; inside = inside; keys = keys; key = key; stands = stands; starts = starts; pairs = pairs; ahead = ahead; again = again })
stop_beyond stop (trailing {more = more} {byte = byte} {at = here} {tokens = others} {t = t} stands whole solid) = inr (trailing_beyond stop here byte others more t stands whole solid)
stop_beyond stop (trailing_colon {rest = place} {word = word} white more {token = tok} {at = here} stands begins plain b e) = inr (colon_beyond stop here white place word more tok stands begins plain e)
stop_beyond stop (unclosed o none_) = inr (unclosed_beyond stop)
stop_beyond {place = place} stop (unexpected l o shut) = inr (unexpected_beyond stop place shut)
