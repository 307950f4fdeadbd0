-- Where texts that are made of fields stick.
use Rattle.std.proofs.Common.{◌≡◌, ℕ, ◌+◌, List, [], ◌∷◌, ◌++◌, length, refl, sym, ap, ◌∙◌, arith, subst, ⊎_elim, append_assoc, append-nil, length-append}
use Rattle.std.proofs.lemmas.List.{append_cancel_left}
use Rattle.reading.specs.Field.{PairFits, Sticks, Stops, TellsItsEnd, pair_text}
use Rattle.reading.specs.Refusal.{IsRefusedAt}
use Rattle.reading.proofs.Lists.{GoesFurther, not_longer, one_goes_further, same_head}
use Rattle.reading.proofs.Refusals.{refused_where}

-- the text of a value is not the beginning of another's
pub outgrows : {A : Type 0} (text : A → List ℕ) (Fits : A → Type 0) → TellsItsEnd text Fits → (a b : A) (byte : ℕ) (more : List ℕ)
    → Fits a → Fits b → text a ≡ text b ++ byte ∷ more → ⊥
outgrows text Fits tells a b byte more fa fb e =
    let same = tells a b [] (byte ∷ more) fa fb (append-nil (text a) ∙ e) in
    not_longer (text b) more byte (sym (ap text same) ∙ e)

-- two values that fit, from one text
pub same_rest : {A : Type 0} (text : A → List ℕ) (Fits : A → Type 0) → TellsItsEnd text Fits → (a b : A) (x y : List ℕ)
    → Fits a → Fits b → text a ++ x ≡ text b ++ y → (a ≡ b) × (x ≡ y)
same_rest text Fits tells a b x y fa fb e =
    let same = tells a b x y fa fb e in
    (same, append_cancel_left (text b) x y (ap (λ c. text c ++ x) (sym same) ∙ e))

-- ---- one field after another

same_pair : {A B : Type 0} (p q : A × B) → p.0 ≡ q.0 → p.1 ≡ q.1 → p ≡ q
same_pair p q e f = ap (λ x. (x, p.1)) e ∙ ap (λ y. (q.0, y)) f

pub pair_tells : {A B : Type 0} (text : A → List ℕ) (Fits : A → Type 0) (second : A → B → List ℕ) (SecondFits : A → B → Type 0)
    → TellsItsEnd text Fits → ((a : A) → Fits a → TellsItsEnd (second a) (SecondFits a))
    → TellsItsEnd (pair_text text second) (PairFits Fits SecondFits)
pair_tells text Fits second SecondFits tells second_tells a b x y fa fb e =
    let cut = sym (append_assoc (text a.0) (second a.0 a.1) x) ∙ e ∙ append_assoc (text b.0) (second b.0 b.1) y in
    let first = same_rest text Fits tells a.0 b.0 (second a.0 a.1 ++ x) (second b.0 b.1 ++ y) fa.0 fb.0 cut in
    let fits : SecondFits b.0 a.1 = subst (λ c. SecondFits c a.1) first.0 fa.1 in
    let same = second_tells b.0 fb.0 a.1 b.1 x y fits fb.1 (ap (λ c. second c a.1 ++ x) (sym first.0) ∙ first.1) in
    same_pair a b first.0 same

-- a value whose text is all taken would be a beginning of the one that sticks
outgrows_front : {A : Type 0} (text : A → List ℕ) (Fits : A → Type 0) → TellsItsEnd text Fits → (taken left : List ℕ) → Sticks text Fits taken left
    → (a : A) → Fits a → (between : List ℕ) → taken ≡ text a ++ between → ⊥
outgrows_front text Fits tells taken left s a fits [] e =
    outgrows text Fits tells s.value a s.byte s.more s.fits fits (s.begins ∙ ap (λ t. t ++ s.byte ∷ s.more) (e ∙ append-nil (text a)))
outgrows_front text Fits tells taken left s a fits (c ∷ between) e =
    outgrows text Fits tells s.value a c (between ++ s.byte ∷ s.more) s.fits fits
    (s.begins ∙ ap (λ t. t ++ s.byte ∷ s.more) e ∙ append_assoc (text a) (c ∷ between) (s.byte ∷ s.more))

first_refuses : {A : Type 0} (text : A → List ℕ) (Fits : A → Type 0) → TellsItsEnd text Fits → (taken left : List ℕ) → Sticks text Fits taken left
    → (byte : ℕ) (others further : List ℕ) (a : A) (rest : List ℕ) → left ≡ byte ∷ others → Fits a
    → GoesFurther (text a) rest taken (byte ∷ further) → ⊥
first_refuses text Fits tells taken left s byte others further a rest e fits ([], front, back) =
    outgrows_front text Fits tells taken left s a fits [] (sym (append-nil taken) ∙ sym front ∙ sym (append-nil (text a)))
first_refuses text Fits tells taken left s byte others further a rest e fits (c ∷ between, front, back) =
    s.refuses byte others between a e fits (front ∙ ap (λ b. taken ++ b ∷ between) (sym (same_head byte c further (between ++ rest) back)))

-- where the first field sticks, the pair does
pub pair_sticks_first : {A B : Type 0} (text : A → List ℕ) (Fits : A → Type 0) (second : A → B → List ℕ) (SecondFits : A → B → Type 0)
    → TellsItsEnd text Fits → ((a : A) → Fits a → (b : B) × SecondFits a b) → (taken left : List ℕ)
    → Sticks text Fits taken left → Sticks (pair_text text second) (PairFits Fits SecondFits) taken left
pair_sticks_first text Fits second SecondFits tells some taken left s =
    let next = some s.value s.fits in
    record {
      value = (s.value, next.0);
      fits = (s.fits, next.1);
      byte = s.byte;
      more = s.more ++ second s.value next.0;
      begins = ap (λ t. t ++ second s.value next.0) s.begins ∙ append_assoc taken (s.byte ∷ s.more) (second s.value next.0);
      refuses = λ byte others further other e fits whole. ⊎_elim
          (λ (h : GoesFurther (text other.0) (second other.0 other.1) taken (byte ∷ further)).
          first_refuses text Fits tells taken left s byte others further other.0 (second other.0 other.1) e fits.0 h)
          (λ (h : GoesFurther taken (byte ∷ further) (text other.0) (second other.0 other.1)).
          outgrows_front text Fits tells taken left s other.0 fits.0 h.0 h.1)
          (one_goes_further (text other.0) (second other.0 other.1) taken (byte ∷ further) whole);
    }

-- where the second field sticks, the pair does
pub pair_sticks_second : {A B : Type 0} (text : A → List ℕ) (Fits : A → Type 0) (second : A → B → List ℕ) (SecondFits : A → B → Type 0)
    → TellsItsEnd text Fits → (a : A) → Fits a → (taken left : List ℕ)
    → Sticks (second a) (SecondFits a) taken left → Sticks (pair_text text second) (PairFits Fits SecondFits) (text a ++ taken) left
pair_sticks_second text Fits second SecondFits tells a fits taken left s = record {
  value = (a, s.value);
  fits = (fits, s.fits);
  byte = s.byte;
  more = s.more;
  begins = ap (λ t. text a ++ t) s.begins ∙ sym (append_assoc (text a) taken (s.byte ∷ s.more));
  refuses = λ byte others further other e other_fits whole.
      let cut = same_rest text Fits tells other.0 a (second other.0 other.1) (taken ++ byte ∷ further) other_fits.0 fits
      (whole ∙ append_assoc (text a) taken (byte ∷ further)) in
      s.refuses byte others further other.1 e (subst (λ c. SecondFits c other.1) cut.0 other_fits.1)
      (ap (λ c. second c other.1) (sym cut.0) ∙ cut.1);
}

-- ---- a reader of the pair

pub first_stops : {A B : Type 0} (text : A → List ℕ) (Fits : A → Type 0) (second : A → B → List ℕ) (SecondFits : A → B → Type 0)
    → TellsItsEnd text Fits → ((a : A) → Fits a → (b : B) × SecondFits a b) → (from : List ℕ) (left : ℕ)
    → Stops text Fits from left → Stops (pair_text text second) (PairFits Fits SecondFits) from left
first_stops text Fits second SecondFits tells some from left s = record {
  taken = s.taken;
  rest = s.rest;
  bytes = s.bytes;
  size = s.size;
  sticks = pair_sticks_first text Fits second SecondFits tells some s.taken s.rest s.sticks;
}

pub second_stops : {A B : Type 0} (text : A → List ℕ) (Fits : A → Type 0) (second : A → B → List ℕ) (SecondFits : A → B → Type 0)
    → TellsItsEnd text Fits → (a : A) → Fits a → (from after : List ℕ) (left : ℕ) → from ≡ text a ++ after
    → Stops (second a) (SecondFits a) after left → Stops (pair_text text second) (PairFits Fits SecondFits) from left
second_stops text Fits second SecondFits tells a fits from after left cut s = record {
  taken = text a ++ s.taken;
  rest = s.rest;
  bytes = cut ∙ ap (λ t. text a ++ t) s.bytes ∙ sym (append_assoc (text a) s.taken s.rest);
  size = s.size;
  sticks = pair_sticks_second text Fits second SecondFits tells a fits s.taken s.rest s.sticks;
}

-- ---- the same field with its values told otherwise

pub told_otherwise : {A B : Type 0} (text : A → List ℕ) (Fits : A → Type 0) (other : B → List ℕ) (OtherFits : B → Type 0)
    (on : A → B) (back : B → A) → ((a : A) → Fits a → OtherFits (on a) × (other (on a) ≡ text a))
    → ((b : B) → OtherFits b → Fits (back b) × (text (back b) ≡ other b))
    → (from : List ℕ) (left : ℕ) → Stops text Fits from left → Stops other OtherFits from left
told_otherwise text Fits other OtherFits on back there here from left s = record {
  taken = s.taken;
  rest = s.rest;
  bytes = s.bytes;
  size = s.size;
  sticks = record {
    value = on s.sticks.value;
    fits = (there s.sticks.value s.sticks.fits).0;
    byte = s.sticks.byte;
    more = s.sticks.more;
    begins = (there s.sticks.value s.sticks.fits).1 ∙ s.sticks.begins;
    refuses = λ byte others further b e fits whole.
        s.sticks.refuses byte others further (back b) e (here b fits).0 ((here b fits).1 ∙ whole);
  };
}

-- what fits more narrowly tells its end too
pub tells_narrower : {A : Type 0} (text : A → List ℕ) (Fits Narrow : A → Type 0) → ((a : A) → Narrow a → Fits a)
    → TellsItsEnd text Fits → TellsItsEnd text Narrow
tells_narrower text Fits Narrow wider tells a b x y fa fb e = tells a b x y (wider a fa) (wider b fb) e

-- values that are told otherwise
pub tells_otherwise : {A B : Type 0} (text : A → List ℕ) (Fits : A → Type 0) (other : B → List ℕ) (OtherFits : B → Type 0) (back : B → A)
    → ((b : B) → OtherFits b → Fits (back b) × (text (back b) ≡ other b)) → ((b c : B) → OtherFits b → OtherFits c → back b ≡ back c → b ≡ c)
    → TellsItsEnd text Fits → TellsItsEnd other OtherFits
tells_otherwise text Fits other OtherFits back here apart tells b c x y fb fc e =
    apart b c fb fc (tells (back b) (back c) x y (here b fb).0 (here c fc).0
    (ap (λ t. t ++ x) (here b fb).1 ∙ e ∙ ap (λ t. t ++ y) (sym (here c fc).1)))

-- ---- a whole text that is one field

abbrev pub IsTextOf : {A : Type 0} → (A → List ℕ) → (A → Type 0) → List ℕ → Type 0
IsTextOf {A} text Fits whole = (a : A) × Fits a × (whole ≡ text a)

nothing_sticks : {A : Type 0} (text : A → List ℕ) (Fits : A → Type 0) → TellsItsEnd text Fits → (taken left : List ℕ) → Sticks text Fits taken left
    → (a : A) → Fits a → taken ++ left ≡ text a → ⊥
nothing_sticks text Fits tells taken [] s a fits e =
    outgrows_front text Fits tells taken [] s a fits [] (sym (append-nil taken) ∙ e ∙ sym (append-nil (text a)))
nothing_sticks text Fits tells taken (byte ∷ others) s a fits e = s.refuses byte others others a refl fits (sym e)

-- where a reader of the field stops, the text is refused
pub refused_where_it_stops : {A : Type 0} (text : A → List ℕ) (Fits : A → Type 0) → TellsItsEnd text Fits → (from : List ℕ) (left : ℕ)
    → Stops text Fits from left → (at : ℕ) → at + left ≡ length from → IsRefusedAt (IsTextOf text Fits) from at
refused_where_it_stops text Fits tells from left s at place =
    let here : length s.taken ≡ at = omega (arith, place, ap length s.bytes, length-append s.taken s.rest, s.size) in
    let refused = refused_where (IsTextOf text Fits) s.taken s.rest
    (λ whole. nothing_sticks text Fits tells s.taken s.rest s.sticks whole.0 whole.1 whole.2)
    (s.sticks.byte ∷ s.sticks.more, (s.sticks.value, s.sticks.fits, sym s.sticks.begins))
    (λ byte others e begins. s.sticks.refuses byte others begins.0 begins.1.0 e begins.1.1
    (sym begins.1.2 ∙ append_assoc s.taken (byte ∷ []) begins.0)) in
    subst (λ t. IsRefusedAt (IsTextOf text Fits) t at) (sym s.bytes) (subst (IsRefusedAt (IsTextOf text Fits) (s.taken ++ s.rest)) here refused)

-- bytes are left over after the text of a value
pub refused_left_over : {A : Type 0} (text : A → List ℕ) (Fits : A → Type 0) → TellsItsEnd text Fits → (a : A) → Fits a
    → (from : List ℕ) (byte : ℕ) (others : List ℕ) → from ≡ text a ++ byte ∷ others → (at : ℕ) → at + length (byte ∷ others) ≡ length from
    → IsRefusedAt (IsTextOf text Fits) from at
refused_left_over text Fits tells a fits from byte others cut at place =
    let here : length (text a) ≡ at = omega (arith, place, ap length cut, length-append (text a) (byte ∷ others)) in
    let refused = refused_where (IsTextOf text Fits) (text a) (byte ∷ others)
    (λ whole. outgrows text Fits tells whole.0 a byte others whole.1 fits (sym whole.2))
    ([], (a, fits, append-nil (text a)))
    (λ next rest e begins. outgrows text Fits tells begins.1.0 a next begins.0 begins.1.1 fits
    (sym begins.1.2 ∙ append_assoc (text a) (next ∷ []) begins.0)) in
    subst (λ t. IsRefusedAt (IsTextOf text Fits) t at) (sym cut) (subst (IsRefusedAt (IsTextOf text Fits) (text a ++ byte ∷ others)) here refused)
