-- The tokens of an entry's key that was just read.
use Rattle.std.specs.Prelude.{option_and_then}
use Rattle.std.proofs.Common.{◌≡◌, ℕ, ◌<◌, ◌≤◌, ◌⊎◌, inl, inr, true, cond, List, [], ◌∷◌, ◌++◌, Some, None, length, refl, sym, ap, ◌∙◌, subst, arith, append_assoc, ⊎_elim}
use Rattle.std.proofs.lemmas.List.{length-append}
use Rattle.term_tokens.specs.declared.bracket.Bracket.TheVariants as bracket
use Rattle.term_tokens.specs.declared.cause.Feature.TheVariants.{Float}
use Rattle.term_tokens.specs.declared.cause.TermCause.{TermCause}
use Rattle.term_tokens.specs.declared.cause.TermCause.TheVariants as cause
use Rattle.elixir_terms.specs.declared.frame.Frame.{Frame}
use Rattle.elixir_terms.specs.declared.frame.Hole.{Hole}
use Rattle.elixir_terms.specs.declared.frame.Slot.TheVariants as slot
use Rattle.elixir_terms.specs.declared.state.State.{State}
use Rattle.elixir_terms.specs.declared.state.State.TheVariants as state
use Rattle.term_values.specs.declared.term.Term.{Term}
use Rattle.term_tokens.specs.declared.token.Token.{Token}
use Rattle.term_tokens.specs.declared.token.Token.TheVariants.{Int}
use Rattle.term_print.specs.Grammar.{IsTerm}
use Rattle.term_tokens.specs.Lexing.{past_blank}
use Rattle.term_tokens.specs.Local.{IsFloat, takes, Locally, float}
use Rattle.elixir_terms.specs.Machine.{placed, part_slot, takes_part, step, expected}
use Rattle.elixir_terms.specs.Prefixes.{Leads, none as no_token, token as one_token}
use Rattle.elixir_terms.specs.Refusals.{IsEnded}
use Rattle.term_tokens.specs.Tokens.{Begins, none}
use Rattle.elixir_terms.proofs.KeyTokens.{part_hole, first_step}
use Rattle.term_tokens.proofs.BlankLemmas.{blanks_meet}
use Rattle.term_tokens.proofs.CalmLemmas.{decimal_begins}
use Rattle.elixir_terms.proofs.LiftLemmas.{lifted, runs_lifted}
use Rattle.elixir_terms.proofs.OpenLemmas.{runs, start, runs_append, after_some, step_taken}
use Rattle.term_tokens.proofs.OptionLemmas.{some_same}
use Rattle.elixir_terms.proofs.PlaceLemmas.{blanks_shorter, leads_shorter, Meets, within, there, behind, meets}
use Rattle.elixir_terms.proofs.PrefixLemmas.{start_sound}
use Rattle.elixir_terms.proofs.DeepRefusals.{Read}
use Rattle.elixir_terms.proofs.StopLemmas.{whole_last}
use Rattle.term_tokens.proofs.TokenLaws.{begins_one, begins_solid, begins_shorter}
use Rattle.elixir_terms.proofs.TrailLemmas.{Trail, trail_leads, blanks_from}

-- one more token behind those that lead on
pub leads_push : {tokens : List Token} {text place : List ℕ} (tok : Token) (after : List ℕ) → Leads tokens text place → Begins place tok after → Leads (tokens ++ tok ∷ []) text after
leads_push tok after (no_token b) begins = one_token b begins (no_token none)
leads_push tok after (one_token b first leads) begins = one_token b first (leads_push tok after leads begins)

-- more tokens lead further
pub leads_later : {front : List Token} {text place end : List ℕ} (more : List Token) → Leads front text place → past_blank place ≡ None → Leads (front ++ more) text end → past_blank end ≡ None → length end ≤ length place
leads_later {end = end} [] (no_token b) solid (no_token c) here = blanks_shorter (blanks_from end b c here)
leads_later (tok ∷ more) (no_token b) solid (one_token {start = begin} c begins leads) here =
    let x = blanks_shorter (blanks_from begin b c (begins_solid begins)) in
    let y = begins_shorter begins in
    let z = leads_shorter leads in
    omega arith
leads_later {end = end} more (one_token {start = begin} {after = after} {token = tok} {tokens = front} b begins leads) solid (one_token {start = other} {after = last} c first later) here =
    let same : other ≡ begin = blanks_meet begin (begins_solid first) (begins_solid begins) c b in
    let one = begins_one (subst (λ l. Begins l tok last) same first) begins in
    leads_later more leads solid (subst (λ l. Leads (front ++ more) l end) one.1 later) here

-- two cuts of a list

pub splits : (xs ys zs ws : List Token) → xs ++ ys ≡ zs ++ ws → ((m : List Token) × (zs ≡ xs ++ m)) ⊎ ((x : Token) × (m : List Token) × (xs ≡ zs ++ x ∷ m) × (ws ≡ x ∷ (m ++ ys)))
splits [] ys zs ws e = inl (zs, refl)
splits (x ∷ xs) ys [] ws e = inr (x, xs, refl, sym e)
splits (x ∷ xs) ys (z ∷ zs) ws e =
    ⊎_elim (λ l. inl (l.0, ap (λ t. t ∷ zs) (sym (heads e)) ∙ ap (λ l. x ∷ l) l.1)) (λ r. inr (r.0, r.1, ap (λ t. t ∷ xs) (heads e) ∙ ap (λ l. z ∷ l) r.2, r.3)) (splits xs ys zs ws (tails e))
  where
    heads : x ∷ (xs ++ ys) ≡ z ∷ (zs ++ ws) → x ≡ z
    heads e = cc

    tails : x ∷ (xs ++ ys) ≡ z ∷ (zs ++ ws) → xs ++ ys ≡ zs ++ ws
    tails e = cc

cancel : (xs ys zs : List Token) → xs ++ ys ≡ xs ++ zs → ys ≡ zs
cancel [] ys zs e = e
cancel (x ∷ xs) ys zs e = cancel xs ys zs (tails e)
  where
    tails : x ∷ (xs ++ ys) ≡ x ∷ (xs ++ zs) → xs ++ ys ≡ xs ++ zs
    tails e = cc

-- inside of an entry's key more brackets are open

deep_element : (outer : List Hole) (s : State) (frame : Frame) (holes : List Hole) → ((t : Term) → placed t outer ≡ state.Element frame holes → ⊥) → lifted outer s ≡ state.Element frame holes → (inner : List Hole) × (holes ≡ inner ++ outer)
deep_element outer (state.Value hs) frame holes n e = absurd (cc)
deep_element outer (state.Element f hs) frame holes n e = (hs, sym (same f frame (hs ++ outer) holes e))
  where
    same : (f g : Frame) (x y : List Hole) → state.Element f x ≡ state.Element g y → x ≡ y
    same f g x y e = cc
deep_element outer (state.Separator f hs) frame holes n e = absurd (cc)
deep_element outer (state.Arrow key f hs) frame holes n e = absurd (cc)
deep_element outer (state.Done t) frame holes n e = absurd (n t e)

pub inside_deeper : (frame other : Frame) (holes hs : List Hole) (key : Term) (x : Token) (m word : List Token) → frame.bracket ≡ bracket.Map → takes_part frame ≡ true → IsTerm (x ∷ (m ++ word)) key → runs (x ∷ m) (state.Element frame holes) ≡ Some (state.Element other hs) → length holes < length hs
inside_deeper frame other holes hs key x m word map_ free reads ran =
    let outer : List Hole = record { frame = frame; slot = slot.EntryKey } ∷ holes in
    let alone = after_some (runs (x ∷ m) start) (runs word) (state.Done key) (sym (runs_append (x ∷ m) word start) ∙ whole_last (x ∷ (m ++ word)) key reads) in
    let hole_same : part_hole frame ∷ holes ≡ outer = ap (λ p. record { frame = frame; slot = p } ∷ holes) (ap part_slot map_) in
    let stepped : step (state.Element frame holes) x ≡ step (state.Value outer) x = first_step x (m ++ word) frame holes reads refl ∙ ap (λ b. cond b (step (state.Value (part_hole frame ∷ holes)) x) None) free ∙ ap (λ l. step (state.Value l) x) hole_same in
    let inside_ : runs (x ∷ m) (state.Value outer) ≡ Some (lifted outer alone.0) = runs_lifted outer (x ∷ m) start alone.0 alone.1 in
    let same : lifted outer alone.0 ≡ state.Element other hs = some_same (sym inside_ ∙ sym (ap (option_and_then (runs m)) stepped) ∙ ran) in
    let d = deep_element outer alone.0 other hs (λ t e. cc) same in
    omega (arith, ap length d.1, length-append d.0 outer)

-- no fraction stands where a token was read

float_here : (s : State) (rest : List ℕ) (tok : Token) (after : List ℕ) → Begins rest tok after → takes (expected s) tok ≡ true → ((k : ℕ) (why : TermCause) → Locally (expected s) rest k why → ⊥) → IsFloat rest → ⊥
float_here s rest tok after begins taken calm f =
    let b = decimal_begins f.0 (f.1 ∷ f.2) f.3 in
    let one = begins_one begins (subst (λ l. Begins l (Int b.0) (46 ∷ f.1 ∷ f.2)) (sym f.5) b.1) in
    calm (length f.0) (cause.Unsupported Float) (float f.1 f.2 (subst (λ t. takes (expected s) t ≡ true) one.0 taken) f.3 f.4 f.5)

-- the tokens of the key stand before what follows it
pub record Found (word : List Token) (rest place after : List ℕ) : Type 0 where
  pub leads : Leads word place after
  pub ended : IsEnded place word after
  pub no_float : IsFloat place → ⊥
  pub before : length rest ≤ length place

long_ended : (place : List ℕ) (first : Token) (more : List Token) (tok : Token) (after : List ℕ) → IsEnded place (first ∷ (more ++ tok ∷ [])) after
long_ended place first [] tok after = tt
long_ended place first (x ∷ more) tok after = tt

pub entry_found : {tokens : List Token} {s : State} {text rest place : List ℕ} (tok : Token) (after : List ℕ) (front word : List Token) → Trail tokens start s text rest → Read s rest tok after → tokens ++ tok ∷ [] ≡ front ++ word → (word ≡ [] → ⊥) → Leads front text place → past_blank place ≡ None → Found word rest place after
entry_found {tokens = tokens} {s = s} {rest = rest} {place = place} tok after front word trail read e some leads solid = by (meets front place trail start_sound leads solid)
  where
    by : Meets tokens start s rest front place → Found word rest place after
    by (within i) =
        let moved : front ++ (i.tok ∷ (i.more ++ tok ∷ [])) ≡ front ++ word = sym (append_assoc front (i.tok ∷ i.more) (tok ∷ [])) ∙ ap (λ l. l ++ tok ∷ []) (sym i.split) ∙ e in
        let stood = i.stood in
        let inner = trail_leads i.trail in
        let made : Found (i.tok ∷ (i.more ++ tok ∷ [])) rest place after = record {
          leads = one_token none stood.begins (leads_push tok after inner read.begins);
          ended = long_ended place i.tok i.more tok after;
          no_float = float_here i.here place i.tok i.after stood.begins (step_taken i.here i.tok i.next stood.stepped) stood.calm;
          before = leads_shorter (one_token none stood.begins inner);
        } in
        subst (λ w. Found w rest place after) (cancel front (i.tok ∷ (i.more ++ tok ∷ [])) word moved) made
    by (there same p) =
        let moved : front ++ (tok ∷ []) ≡ front ++ word = ap (λ l. l ++ tok ∷ []) same ∙ e in
        let made : Found (tok ∷ []) rest rest after = record {
          leads = one_token none read.begins (no_token none);
          ended = read.free;
          no_float = float_here s rest tok after read.begins read.expects read.calm;
          before = omega arith;
        } in
        subst (λ w. Found w rest place after) (cancel front (tok ∷ []) word moved) (subst (λ l. Found (tok ∷ []) rest l after) (sym p) made)
    by (behind b) =
        let moved : tokens ++ tok ∷ [] ≡ tokens ++ (b.tok ∷ (b.more ++ word)) = e ∙ ap (λ l. l ++ word) b.split ∙ append_assoc tokens (b.tok ∷ b.more) word in
        absurd (some (no_more tok b.tok b.more (cancel tokens (tok ∷ []) (b.tok ∷ (b.more ++ word)) moved)))
      where
        no_more : (x y : Token) (m : List Token) → x ∷ [] ≡ y ∷ (m ++ word) → word ≡ []
        no_more x y [] e = cc
        no_more x y (z ∷ m) e = absurd (cc)
