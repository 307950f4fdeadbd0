-- What is done once each place has its fate: older marks are written again, and what wasn't built is cleared.
use Rattle.std.specs.Prelude.{◌≡◌, ℕ, Bool, true, false, List, [], ◌∷◌}
use Rattle.compile_model.specs.declared.job.Job.{Job}
use Rattle.compile_model.specs.declared.job.Plan.{Plan}
use Rattle.compile_model.specs.declared.outcome.Fate.{Fate}
use Rattle.compile_model.specs.declared.outcome.Fate.TheVariants.{Built, Failed, Skipped}
use Rattle.compile_model.specs.declared.outcome.Outcome.{Outcome}
use Rattle.compile_model.specs.Content.{Content}
use Rattle.honest_tree.specs.Given.{Given}
use Rattle.honest_tree.specs.Honest.{Honest}
use Rattle.kept_tree.specs.Clearing.{is_among, is_in_env, is_of}
use Rattle.kept_tree.specs.Rewriting.{IsRewrittenAt}
use Rattle.kept_tree.specs.Tree.{StaysElsewhere}
use Rattle.tree_store.specs.declared.key.BuildKey.{BuildKey}
use Rattle.tree_store.specs.Slot.{Slot, emptied_slot}

-- the app of a job that was built
abbrev pub built_app : Job → Fate → List (List ℕ) → List (List ℕ)
built_app job (Built outcome) apps = job.app ∷ apps
built_app job (Failed outcome) apps = apps
built_app job (Skipped need) apps = apps

-- the apps that were built, in the order of their jobs
abbrev pub built_apps : List Job → List Fate → List (List ℕ)
built_apps [] fates = []
built_apps (job ∷ jobs) [] = []
built_apps (job ∷ jobs) (fate ∷ fates) = built_app job fate (built_apps jobs fates)

-- what is honest stays so, and outside of the environment nothing changed
pub record KeepsTree (env : List ℕ) (old new : BuildKey → Slot) : Type 0 where
  pub elsewhere : StaysElsewhere env old new
  pub honest : (compile : Content → Outcome) (known : List Given) → Honest compile known old → Honest compile known new

-- a build's mark is written again, or the build stays
abbrev pub RewrittenIf : Bool → Slot → Slot → Type 0
RewrittenIf true old new = IsRewrittenAt old new
RewrittenIf false old new = new ≡ old

-- the marks of these apps are written again, and each other build stays
abbrev pub Rewrites : List ℕ → List (List ℕ) → (BuildKey → Slot) → (BuildKey → Slot) → Type 0
Rewrites env apps old new = (q : BuildKey) → RewrittenIf (is_of env apps q) (old q) (new q)

-- a build's mark is written again, or the build is emptied
abbrev pub SettledIf : Bool → Slot → Slot → Type 0
SettledIf true old new = IsRewrittenAt old new
SettledIf false old new = new ≡ emptied_slot old

-- of the environment's builds the marks of these apps are written again, and each other build is emptied
abbrev pub Settles : List ℕ → List (List ℕ) → (BuildKey → Slot) → (BuildKey → Slot) → Type 0
Settles env apps old new = (q : BuildKey) → is_in_env env q ≡ true → SettledIf (is_among apps q.app) (old q) (new q)
