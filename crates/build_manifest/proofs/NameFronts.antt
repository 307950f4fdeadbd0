-- The front of a text that a name may begin with.
use Rattle.std.proofs.Common.{◌≡◌, ℕ, ◌<◌, ◌≤◌, List, [], ◌∷◌, length, take, drop, get_or, slice_index, IsTrue, refl, sym, ap, ◌∙◌, arith, subst, drop-cons, true≢false}
use Rattle.std.specs.Prelude.{IsFalse}
use Rattle.std.proofs.lemmas.List.{get_or-take, length-drop, length-take, take-append-drop}
use Rattle.mx_base.specs.declared.name.NameError.{NameError}
use Rattle.mx_base.specs.AppName.{IsAppName, fits_at, is_app_name}
use Rattle.mx_base.specs.NameFaults.{is_memory}
use Rattle.mx_base.proofs.NameLemmas.{is_name_of_fits}
use Rattle.build_manifest.specs.Names.{IsLongestFront, NoneGoesOn}

none_goes_on : (text front : List ℕ) (i : ℕ) → length front ≡ i → i ≤ length text
    → (i < length text → i < 255 → IsFalse (fits_at i (slice_index text i))) → NoneGoesOn front (drop i text)
none_goes_on text front i long within bad = at (drop i text) refl
  where
    at : (rest : List ℕ) → drop i text ≡ rest → NoneGoesOn front rest
    at [] e = tt
    at (next ∷ others) e = λ short.
        let inside : i < length text = omega (arith, ap length e, length-drop i text) in
        let same : get_or text i 0 ≡ next = ap (λ t. get_or t 0 0) (sym (drop-cons text i 0 inside) ∙ e) in
        subst (λ n. IsFalse (fits_at n next)) (sym long) (subst (λ b. IsFalse (fits_at i b)) same (bad inside (omega (arith, long, short))))

pub longest : (text : List ℕ) (i : ℕ) → i ≤ 255 → i ≤ length text → ((k : ℕ) → k < i → IsTrue (fits_at k (slice_index text k)))
    → (i < length text → i < 255 → IsFalse (fits_at i (slice_index text i))) → IsLongestFront text (take i text)
longest text i short within fits bad =
    let long : length (take i text) ≡ i = omega (arith, length-take i text) in
    record {
      rest = drop i text;
      cut = sym (take-append-drop i text);
      not_long = omega (arith, long);
      bytes = λ k below.
          let under : k < i = omega (arith, long, below) in
          subst (λ b. IsTrue (fits_at k b)) (sym (get_or-take i text k 0 under)) (fits k under);
      ends = none_goes_on text (take i text) i long within bad;
    }

-- a name is refused for want of memory alone
pub not_refused : (text : List ℕ) → IsAppName text → (e : NameError) → IsFalse (is_memory e) → (IsFalse (is_memory e) → IsFalse (is_app_name text)) → ⊥
not_refused text is e other exact =
    true≢false (sym (is_name_of_fits text (λ none. absurd (omega (arith, ap length none, is.not_empty))) is.not_long is.bytes) ∙ exact other)
