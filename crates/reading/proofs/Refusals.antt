-- Laws of refusal, for every language.
use Rattle.std.proofs.Common.{◌≡◌, ℕ, suc, ◌+◌, ◌-◌, ◌<◌, ◌≤◌, List, [], ◌∷◌, ◌++◌, length, take, refl, sym, ap, arith, subst, ⊎_elim, append_assoc, append-nil, length-append}
use Rattle.std.proofs.Math.Seq.{take-append-add, take-append_seam}
use Rattle.std.proofs.lemmas.Bool.{cases_order}
use Rattle.reading.specs.Refusal.{Begins, IsRefusedAt, IsStuck}

-- one place at most
pub one_place : {X : Type 0} (Spells : List X → Type 0) (text : List X) (at other : ℕ)
    → IsRefusedAt Spells text at → IsRefusedAt Spells text other → at ≡ other
one_place Spells text at other a b =
    ⊎_elim (λ e. e)
    (λ more. ⊎_elim
    (λ (h : at < other). absurd (a.longest other h b.within b.begins))
    (λ (h : other < at). absurd (b.longest at h a.within a.begins)) more) (cases_order at other)

-- none where the language has the text
pub exclusive : {X : Type 0} (Spells : List X → Type 0) (text : List X) (at : ℕ) → IsRefusedAt Spells text at → Spells text → ⊥
exclusive Spells text at refused = refused.nothing

-- what begins a text still does with less of it
shorter_begins : {X : Type 0} (Spells : List X → Type 0) (front more : List X) → Begins Spells (front ++ more) → Begins Spells front
shorter_begins Spells front more begins = (more ++ begins.0, subst Spells (append_assoc front more begins.0) begins.1)

longer_front : {X : Type 0} (taken others : List X) (byte : X) (k j : ℕ) → k ≡ length taken + suc j
    → take k (taken ++ byte ∷ others) ≡ (taken ++ byte ∷ []) ++ take j others
longer_front taken others byte k j place =
    rw (place, append_assoc taken (byte ∷ []) (take j others)) (take-append-add taken (byte ∷ others) (suc j))

no_longer : {X : Type 0} (Spells : List X → Type 0) (taken left : List X)
    → ((byte : X) (others : List X) → left ≡ byte ∷ others → Begins Spells (taken ++ byte ∷ []) → ⊥)
    → (k : ℕ) → length taken < k → k ≤ length (taken ++ left) → Begins Spells (take k (taken ++ left)) → ⊥
no_longer Spells taken [] refuses k over within begins = absurd (omega (arith, ap length (append-nil taken)))
no_longer Spells taken (byte ∷ others) refuses k over within begins =
    let j = k - suc (length taken) in
    let place : k ≡ length taken + suc j = omega arith in
    refuses byte others refl (shorter_begins Spells (taken ++ byte ∷ []) (take j others)
    (subst (Begins Spells) (longer_front taken others byte k j place) begins))

-- what was taken begins a text, with the next byte it doesn't: there the text is refused
pub refused_where : {X : Type 0} (Spells : List X → Type 0) (taken left : List X) → (Spells (taken ++ left) → ⊥) → Begins Spells taken
    → ((byte : X) (others : List X) → left ≡ byte ∷ others → Begins Spells (taken ++ byte ∷ []) → ⊥)
    → IsRefusedAt Spells (taken ++ left) (length taken)
refused_where Spells taken left nothing begins refuses = record {
  nothing = nothing;
  within = omega (arith, length-append taken left);
  begins = subst (Begins Spells) (sym (take-append_seam taken left)) begins;
  longest = no_longer Spells taken left refuses;
}

-- a reader accepts the language, what was taken has led it to a state, and there it is stuck
pub refused_where_stuck : {X : Type 0} (Spells : List X → Type 0) {S : Type 0} (Leads : S → List X → Type 0) (start state : S) (taken left : List X)
    → ((text : List X) → Spells text → Leads start text) → ((text : List X) → Leads start text → Spells text)
    → ((more : List X) → Leads start (taken ++ more) → Leads state more) → ((more : List X) → Leads state more → Leads start (taken ++ more))
    → IsStuck Leads state left → IsRefusedAt Spells (taken ++ left) (length taken)
refused_where_stuck Spells Leads start state taken left accepts spells on back stuck =
    refused_where Spells taken left
    (λ h. stuck.ends (on left (accepts (taken ++ left) h)))
    (stuck.lives.0, spells (taken ++ stuck.lives.0) (back stuck.lives.0 stuck.lives.1))
    (λ byte others e begins. stuck.refuses byte others begins.0 e
    (on (byte ∷ begins.0) (subst (Leads start) (append_assoc taken (byte ∷ []) begins.0) (accepts _ begins.1))))

-- the same language told otherwise
pub refused_same : {X : Type 0} (Spells Other : List X → Type 0) → ((text : List X) → Spells text → Other text) → ((text : List X) → Other text → Spells text)
    → (text : List X) (at : ℕ) → IsRefusedAt Spells text at → IsRefusedAt Other text at
refused_same Spells Other on back text at refused = record {
  nothing = λ h. refused.nothing (back text h);
  within = refused.within;
  begins = (refused.begins.0, on _ refused.begins.1);
  longest = λ k over within begins. refused.longest k over within (begins.0, back _ begins.1);
}
