use Rattle.std.proofs.Common.{◌≡◌, ℕ, zero, suc, ◌-◌, false, true, List, [], ◌∷◌, get_or, length, sym, ◌∙◌, inr, arith}
use Rattle.std.proofs.lemmas.Bool.{not_from_false}
use Rattle.unit_lang.specs.Lines.{ends_solid}
use Rattle.unit_lang.specs.Names.{is_blank}
use Rattle.unit_lang.proofs.blanks.trim_end.Goals as goal

-- a text whose last byte is no blank
solid_at : (rest : List ℕ) (k d : ℕ) → suc k ≡ length rest → is_blank (get_or rest k d) ≡ false → ends_solid rest ≡ true
solid_at [] k d e b = absurd (omega arith)
solid_at (x ∷ []) zero d e b = not_from_false (is_blank x) b
solid_at (x ∷ []) (suc k) d e b = absurd (omega arith)
solid_at (x ∷ y ∷ rest) zero d e b = absurd (omega arith)
solid_at (x ∷ y ∷ rest) (suc k) d e b = solid_at (y ∷ rest) k d (omega arith) b

pub returns-then-not-is_blank-clause-solid : goal.returns-then-not-is_blank-clause-solid
returns-then-not-is_blank-clause-solid c = inr (solid_at c.loop-rest.rest.now (length c.loop-rest.rest.now - 1) 0 (omega arith) (sym c.is_blank.ensures ∙ c.if-not-is_blank.true))
