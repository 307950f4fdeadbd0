use Rattle.std.proofs.Common.{ℕ, List, ◌∷◌, sym, subst, IfNone}
use Rattle.build_manifest.specs.Paths.{EndsCharacter}
use Rattle.build_manifest.proofs.paths.next_missing.Goals as goal

pub returns-then-now-eq0-clause-none : goal.returns-then-now-eq0-clause-none
returns-then-now-eq0-clause-none c =
    let now = c.args.now in
    subst (λ (n : ℕ). IfNone c.after_first.result ((bytes : List ℕ) → EndsCharacter n now.low now.high (c.args.byte ∷ bytes) → ⊥)) (sym c.if-now-eq0.true)
    c.after_first.ensures.none
