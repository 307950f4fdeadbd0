-- How a path stands to the one before it, byte by byte.
use Rattle.std.proofs.Common.{◌≡◌, ℕ, ◌<◌, List, [], ◌∷◌, slice_get, Option, Some, None, refl, sym, ap, subst, arith}
use Rattle.std.specs.declared.cmp.Ordering.{Ordering}
use Rattle.std.specs.declared.cmp.Ordering.TheVariants.{Less, Greater}
use Rattle.std.specs.Cmp.{nat_cmp_is}
use Rattle.std.specs.Ordering.{nat_cmp, ordering_then}
use Rattle.mx_base.specs.Order.{text_cmp}
use Rattle.build_manifest.specs.declared.paths.Order.{Order}
use Rattle.build_manifest.specs.declared.paths.Order.TheVariants.{Same}
use Rattle.build_manifest.specs.Paths.{EndsOrder}

less : (a b : ℕ) → a < b → nat_cmp a b ≡ Less
less a b h = sym (nat_cmp_is a b Less h)

greater : (a b : ℕ) → b < a → nat_cmp a b ≡ Greater
greater a b h = sym (nat_cmp_is a b Greater h)

-- the path before has ended
pub none_left : (now : Order) (earlier bytes : List ℕ) (byte : ℕ) (other : Option ℕ) → now ≡ Same → other ≡ None → slice_get earlier 0 ≡ other
    → EndsOrder now earlier (byte ∷ bytes)
none_left now [] bytes byte other is none e = subst (λ (o : Order). EndsOrder o [] (byte ∷ bytes)) (sym is) refl
none_left now (x ∷ earlier) bytes byte other is none e = cc

-- the byte is above that of the path before
pub gets_above : (now : Order) (earlier bytes : List ℕ) (byte x : ℕ) (other : Option ℕ) → now ≡ Same → other ≡ Some x → slice_get earlier 0 ≡ other
    → x < byte → EndsOrder now earlier (byte ∷ bytes)
gets_above now [] bytes byte x other is some e above = cc
gets_above now (y ∷ earlier) bytes byte x other is some e above =
    let same : y ≡ x = cc in
    let order : nat_cmp y byte ≡ Less = less y byte (omega (arith, same)) in
    subst (λ (o : Order). EndsOrder o (y ∷ earlier) (byte ∷ bytes)) (sym is) (ap (λ (o : Ordering). ordering_then o (text_cmp earlier bytes)) order)

-- the byte is below it
pub gets_below : (now : Order) (earlier bytes : List ℕ) (byte x : ℕ) (other : Option ℕ) → now ≡ Same → other ≡ Some x → slice_get earlier 0 ≡ other
    → byte < x → EndsOrder now earlier (byte ∷ bytes) → ⊥
gets_below now [] bytes byte x other is some e below ends = cc
gets_below now (y ∷ earlier) bytes byte x other is some e below ends =
    let same : y ≡ x = cc in
    let order : nat_cmp y byte ≡ Greater = greater y byte (omega (arith, same)) in
    let less : text_cmp (y ∷ earlier) (byte ∷ bytes) ≡ Less = subst (λ (o : Order). EndsOrder o (y ∷ earlier) (byte ∷ bytes)) is ends in
    let more : text_cmp (y ∷ earlier) (byte ∷ bytes) ≡ Greater = ap (λ (o : Ordering). ordering_then o (text_cmp earlier bytes)) order in
    cc (less, more)
