-- A text is refused where the key of an entry comes again.
use Rattle.std.specs.Prelude.{option_and_then}
use Rattle.std.proofs.Common.{get_or, ◌≡◌, ℕ, ◌+◌, ◌-◌, ◌≤◌, inl, inr, List, [], ◌∷◌, ◌++◌, Some, None, length, refl, sym, ap, ◌∙◌, subst, arith, append_assoc, ⊎_elim}
use Rattle.std.specs.Str.{IsUtf8}
use Rattle.std.proofs.Math.Nat.{eq-or-lt_of_le}
use Rattle.std.proofs.lemmas.List.{append-nil}
use Rattle.term_tokens.specs.declared.bracket.Bracket.TheVariants as bracket
use Rattle.term_tokens.specs.declared.cause.TermCause.{TermCause}
use Rattle.term_tokens.specs.declared.cause.TermCause.TheVariants as cause
use Rattle.elixir_terms.specs.declared.frame.Frame.{Frame}
use Rattle.elixir_terms.specs.declared.frame.Hole.{Hole}
use Rattle.elixir_terms.specs.declared.frame.Slot.TheVariants as slot
use Rattle.elixir_terms.specs.declared.state.State.{State}
use Rattle.elixir_terms.specs.declared.state.State.TheVariants as state
use Rattle.term_values.specs.declared.term.Term.{Term}
use Rattle.term_tokens.specs.declared.token.Token.{Token}
use Rattle.term_tokens.specs.declared.token.Token.TheVariants.{Open, Arrow}
use Rattle.term_print.specs.Grammar.{IsTerm}
use Rattle.term_tokens.specs.Lexing.{past_blank}
use Rattle.elixir_terms.specs.Codes.{keys_in}
use Rattle.elixir_terms.specs.Machine.{NewIn, IsNew, begun, step}
use Rattle.elixir_terms.specs.Prefixes.{AreOpen, Leads, StandsAt}
use Rattle.elixir_terms.specs.Refusals.{Pairs, KeyAhead, Holds}
use Rattle.elixir_terms.specs.Refusals as far
use Rattle.elixir_terms.specs.Within.{deepest, longest}
use Rattle.elixir_terms.proofs.KeyTokens.{term_first}
use Rattle.elixir_terms.proofs.FreshKeys.{wants_new}
use Rattle.elixir_terms.proofs.HeldKeys.{Held, Again, held, starts, later}
use Rattle.elixir_terms.proofs.AgainLemmas.{ahead_solid, again}
use Rattle.elixir_terms.proofs.PlacedHistory.{History, AfterEntryKey, InHoles}
use Rattle.elixir_terms.proofs.HistoryLemmas.{step_history}
use Rattle.elixir_terms.proofs.LiftLemmas.{lifted}
use Rattle.elixir_terms.proofs.DeepRefusals.{Read}
use Rattle.elixir_terms.proofs.EntryLemmas.{leads_later, splits, inside_deeper, Found, entry_found}
use Rattle.elixir_terms.proofs.Meaning.{Wants}
use Rattle.elixir_terms.proofs.OpenLemmas.{runs, start, runs_append, runs_push}
use Rattle.elixir_terms.proofs.PlaceLemmas.{leads_shorter}
use Rattle.elixir_terms.proofs.PrefixLemmas.{sound_open, AllSound, start_sound, trail_sound, next_sound, step_open}
use Rattle.elixir_terms.proofs.SoundLemmas.{need}
use Rattle.elixir_terms.proofs.StopStates.{Beyond, Repeats}
use Rattle.elixir_terms.proofs.StopLemmas.{stop_beyond}
use Rattle.term_tokens.proofs.TokenLaws.{begins_one, begins_shorter}
use Rattle.elixir_terms.proofs.TrailLemmas.{Trail, trail_runs}
use Rattle.elixir_terms.proofs.KeywordRefusals.{place_of, not_kept, lifted_new, Within_, within_of, again_stop, first_slot}

-- a key of an entry stands where the last key in its bracket began
abbrev pub Begun : List ℕ → List ℕ → List Token → ℕ → Type 0
Begun text begun l d = (place : List ℕ) × Leads l text place × (past_blank place ≡ None) × (get_or begun d 0 ≡ length place) × (frame : Frame) × (holes : List Hole) × (runs l start ≡ Some (state.Element frame holes)) × (length holes ≡ d)

-- the tokens of a term are some
some_tokens : {word : List Token} {t : Term} → IsTerm word t → word ≡ [] → ⊥
some_tokens h e = let f = term_first h in no_cons f.0 f.1 (sym e ∙ f.2)
  where
    no_cons : (x : Token) (xs : List Token) → [] ≡ x ∷ xs → ⊥
    no_cons x xs e = cc

open_front : (front word : List Token) → AreOpen (front ++ word) → AreOpen front
open_front front word o = (word ++ o.0, o.1, subst (λ l. IsTerm l o.1) (append_assoc front word o.0) o.2)

-- the key that was just read and the tokens before it
abbrev KeyRead : List ℕ → List ℕ → Frame → List Hole → Term → List Token → Type 0
KeyRead text places frame holes whole tokens = AfterEntryKey (λ l. Begun text places l (length holes)) [] (InHoles (Begun text places) holes) frame whole tokens

entry_holds : {text : List ℕ} {tokens : List Token} {s : State} {rest : List ℕ} (at : ℕ) (places : List ℕ) (tok : Token) (after : List ℕ) (whole : Term) (frame : Frame) (holes : List Hole) → Trail tokens start s text rest → Read s rest tok after → need s tok ≤ deepest → step s tok ≡ Some (state.Arrow whole frame holes) → (NewIn frame.bracket whole (keys_in frame) → ⊥) → (b : KeyRead text places frame holes whole (tokens ++ tok ∷ [])) → at + length b.mark.0 ≡ length text → Found b.word rest b.mark.0 after → Holds text at cause.DuplicateKey
entry_holds {text = text} {tokens = tokens} {s = s} {rest = rest} at places tok after whole frame holes trail read well stepped old b place found =
    let next : State = state.Arrow whole frame holes in
    let before_sound = trail_sound trail start_sound in
    let sound : AllSound next = λ extra. next_sound (deepest + extra) s next tok (before_sound extra) (omega arith) stepped in
    let split : tokens ++ tok ∷ [] ≡ b.front ++ b.word = b.split ∙ ap (λ l. b.front ++ l) (append-nil b.word) in
    let ran : runs (b.front ++ b.word) start ≡ Some next = subst (λ l. runs l start ≡ Some next) split (runs_push tokens tok start s next (trail_runs trail) stepped) in
    let open_ = open_front b.front b.word (sound_open (deepest + 0) (b.front ++ b.word) next ran (sound 0)) in
    let arrow_ = step_open (b.front ++ b.word) next Arrow ran sound refl in
    let k = not_kept frame.bracket whole (keys_in frame) old in
    let x = b.before in
    let here : b.front ≡ x.outer ++ Open bracket.Map ∷ x.inside = x.split ∙ ap (λ kind. x.outer ++ Open kind ∷ x.inside) k.0 in
    let pairs = subst (λ l. Pairs l (keys_in frame)) (append-nil x.inside) (x.pairs k.0) in
    let stands : StandsAt text at b.front b.mark.0 = record { leads = b.mark.1; place = place } in
    let ahead : KeyAhead b.front b.mark.0 whole = far.entry b.mark.2 found.leads b.reads found.ended found.no_float arrow_ in
    far.repeated x.outer x.inside (subst (λ ts. StandsAt text at ts b.mark.0) here stands) (subst AreOpen here open_) pairs (subst (λ ts. KeyAhead ts b.mark.0 whole) here ahead) k.1

same_arrow : (a b : Term) (f g : Frame) (x y : List Hole) → state.Arrow a f x ≡ state.Arrow b g y → x ≡ y
same_arrow a b f g x y e = cc

-- the tokens before a key that comes again and ends where the other one does are no fewer than those before that one
held_behind : {text : List ℕ} {tokens : List Token} {s : State} {rest : List ℕ} {others : List Token} (h : Held tokens s rest others) (place there_ : List ℕ) (front word : List Token) (frame : Frame) (holes : List Hole) → h.more ≡ [] → length holes ≡ length h.holes → runs front start ≡ Some (state.Element frame holes) → tokens ++ h.tok ∷ [] ≡ front ++ word → Leads front text place → past_blank place ≡ None → Leads others text there_ → past_blank there_ ≡ None → length there_ ≤ length place
held_behind {text = text} {tokens = tokens} {others = others} h place there_ front word frame holes nil depth_ ran e leads solid other here =
    ⊎_elim
    (λ l. leads_later l.0 leads solid (subst (λ ts. Leads ts text there_) l.1 other) here)
    (λ r. absurd (deeper r.0 r.1 r.2 r.3))
    (splits front word others (h.pre ++ h.tok ∷ []) (sym e ∙ ap (λ l. l ++ h.tok ∷ []) h.split ∙ append_assoc others h.pre (h.tok ∷ [])))
  where
    deeper : (x : Token) (m : List Token) → front ≡ others ++ x ∷ m → h.pre ++ h.tok ∷ [] ≡ x ∷ (m ++ word) → ⊥
    deeper x m a b =
        let reads : IsTerm (x ∷ (m ++ word)) h.key = subst (λ l. IsTerm l h.key) (ap (λ l. h.pre ++ h.tok ∷ l) nil ∙ b) h.reads in
        let through : runs (others ++ x ∷ m) start ≡ Some (state.Element frame holes) = subst (λ ts. runs ts start ≡ Some (state.Element frame holes)) a ran in
        let on : runs (x ∷ m) (state.Element h.frame h.holes) ≡ Some (state.Element frame holes) = sym (ap (option_and_then (runs (x ∷ m))) h.ran) ∙ sym (runs_append others (x ∷ m) start) ∙ through in
        let more = inside_deeper h.frame frame h.holes holes h.key x m word h.map_ h.free reads on in
        omega arith

entry_again : {text : List ℕ} {tokens : List Token} {s : State} {rest : List ℕ} {here : ℕ} (places : List ℕ) (tok : Token) (after : List ℕ) (whole : Term) (frame : Frame) (holes : List Hole) → Trail tokens start s text rest → Read s rest tok after → step s tok ≡ Some (state.Arrow whole frame holes) → (NewIn frame.bracket whole (keys_in frame) → ⊥) → (b : KeyRead text places frame holes whole (tokens ++ tok ∷ [])) → length rest ≤ length b.mark.0 → (r : Repeats text here) → Again tokens s rest (r.outer ++ Open bracket.Map ∷ r.inside) r.rest → length r.rest ≤ length b.mark.0
entry_again {text = text} {tokens = tokens} {s = s} {rest = rest} places tok after whole frame holes trail read stepped old b before r (held h) =
    let one = begins_one read.begins h.begins in
    let next : State = state.Arrow whole frame holes in
    let w = within_of h next (subst (λ t. step s t ≡ Some next) one.0 stepped) in
    let split : tokens ++ tok ∷ [] ≡ b.front ++ b.word = b.split ∙ ap (λ l. b.front ++ l) (append-nil b.word) in
    by w (subst (λ t. tokens ++ t ∷ [] ≡ b.front ++ b.word) one.0 split) w.inner refl
  where
    fresh : (w : Within_ h (state.Arrow whole frame holes)) → ((t : Term) → w.inner ≡ state.Done t → ⊥) → ⊥
    fresh w open_ =
        let outer : List Hole = record { frame = h.frame; slot = slot.EntryKey } ∷ h.holes in
        old (subst IsNew (sym w.same) (lifted_new outer w.inner (wants_new h.key h.fit w.inner h.more w.wanted) open_ (λ hole hs e. first_slot h.frame hole h.holes hs e)))

    by : (w : Within_ h (state.Arrow whole frame holes)) → tokens ++ h.tok ∷ [] ≡ b.front ++ b.word → (inner : State) → w.inner ≡ inner → length r.rest ≤ length b.mark.0
    by w split (state.Done t) e =
        let outer : List Hole = record { frame = h.frame; slot = slot.EntryKey } ∷ h.holes in
        let wanted : Wants h.key (state.Done t) h.more = subst (λ x. Wants h.key x h.more) e w.wanted in
        let same = same_arrow whole t frame h.frame holes h.holes (w.same ∙ ap (lifted outer) e) in
        held_behind h b.mark.0 r.rest b.front b.word b.mark.4 b.mark.5 wanted.0 (b.mark.7 ∙ ap length same) b.mark.6 split b.mark.1 b.mark.2 r.stands.leads (ahead_solid r.ahead)
    by w split (state.Value hs) e = absurd (fresh w (λ t d. cc))
    by w split (state.Element f hs) e = absurd (fresh w (λ t d. cc))
    by w split (state.Separator f hs) e = absurd (fresh w (λ t d. cc))
    by w split (state.Arrow k f hs) e = absurd (fresh w (λ t d. cc))
entry_again places tok after whole frame holes trail read stepped old b before r (starts e p st) = let w = ap length p in omega arith
entry_again places tok after whole frame holes trail read stepped old b before r (later p el) = let x = begins_shorter p.begins in let y = leads_shorter p.leads in omega arith

-- the key of an entry comes again
pub entry_refusal : {text : List ℕ} {tokens : List Token} {s : State} {rest : List ℕ} (places : List ℕ) (tok : Token) (after : List ℕ) (whole : Term) (frame : Frame) (holes : List Hole) → length text ≤ longest → IsUtf8 text → Trail tokens start s text rest → History (Begun text places) s tokens → ((f : Frame) (hs : List Hole) → s ≡ state.Element f hs → Begun text places tokens (length hs)) → Read s rest tok after → need s tok ≤ deepest → step s tok ≡ Some (state.Arrow whole frame holes) → (NewIn frame.bracket whole (keys_in frame) → ⊥) → (at : ℕ) × (at + get_or places (length holes) 0 ≡ length text) × far.IsRefusal text at cause.DuplicateKey
entry_refusal {text = text} {tokens = tokens} {s = s} {rest = rest} places tok after whole frame holes short utf8 trail history marks read well stepped old =
    let b : KeyRead text places frame holes whole (tokens ++ tok ∷ []) = step_history (Begun text places) s (state.Arrow whole frame holes) tok tokens marks history stepped in
    let split : tokens ++ tok ∷ [] ≡ b.front ++ b.word = b.split ∙ ap (λ l. b.front ++ l) (append-nil b.word) in
    let found = entry_found tok after b.front b.word trail read split (some_tokens b.reads) b.mark.1 b.mark.2 in
    let less = leads_shorter b.mark.1 in
    let mark = b.mark.3 in
    let at = length text - length b.mark.0 in
    let p = place_of trail in
    let sum = p.1 in
    let before = found.before in
    let stop = again_stop p.0 tok after trail sum read well in (
      at,
      omega arith,
      far.first short utf8
          (entry_holds at places tok after whole frame holes trail read well stepped old b (omega arith) found)
          (λ where_ other h. ⊎_elim
          (λ r. subst (λ c. Beyond at cause.DuplicateKey where_ c) (sym r.0) (let e = entry_again places tok after whole frame holes trail read stepped old b before r.1 (again trail r.1) in let y = r.1.stands.place in beyond_at at where_ (omega arith)))
          (λ l. sooner at (p.0 + 0) where_ other (omega arith) l)
          (stop_beyond stop h)),
    )
  where
    beyond_at : (at where_ : ℕ) → at ≤ where_ → Beyond at cause.DuplicateKey where_ cause.DuplicateKey
    beyond_at at where_ h = ⊎_elim (λ e. inr (e, omega arith)) (λ l. inl l) (eq-or-lt_of_le h)

    sooner : (at later_ where_ : ℕ) (other : TermCause) → at ≤ later_ → Beyond later_ cause.DuplicateKey where_ other → Beyond at cause.DuplicateKey where_ other
    sooner at later_ where_ other h b = ⊎_elim (λ l. inl (omega arith)) (λ l. let e = l.0 in ⊎_elim (λ s. inr (omega arith, l.1)) (λ s. inl (omega arith)) (eq-or-lt_of_le h)) b
