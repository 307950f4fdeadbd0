-- Options that are there.
use Rattle.std.specs.Prelude.{option_map}
use Rattle.std.proofs.Common.{◌≡◌, Bool, true, false, Option, Some, None, cond, refl}

pub none_some : {X : Type 0} {x : X} → None ≡ Some x → ⊥
none_some e = cc

pub some_same : {X : Type 0} {x y : X} → Some x ≡ Some y → x ≡ y
some_same e = cc

pub cond_some : {X : Type 0} (b : Bool) (o : Option X) (x : X) → cond b o None ≡ Some x → (b ≡ true) × (o ≡ Some x)
cond_some true o x e = (refl, e)
cond_some false o x e = absurd (none_some e)

pub cond_none : {X : Type 0} (b : Bool) (o : Option X) (x : X) → cond b None o ≡ Some x → (b ≡ false) × (o ≡ Some x)
cond_none true o x e = absurd (none_some e)
cond_none false o x e = (refl, e)

pub map_some : {X Y : Type 0} (f : X → Y) (o : Option X) (y : Y) → option_map f o ≡ Some y → (x : X) × (o ≡ Some x) × (f x ≡ y)
map_some f None y e = absurd (none_some e)
map_some f (Some x) y e = (x, refl, some_same e)
