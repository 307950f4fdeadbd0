-- What stands after a call, however it ended.
use Rattle.std.proofs.Common.{◌≡◌, ℕ, Bool, true, false, cond, List, [], ◌∷◌, Ok, Err, codes, bytes_eq, ap, arith, subst, sym}
use Rattle.mx_base.specs.BuildName.{HasBuildName, build_name, host}
use Rattle.compile_model.specs.declared.job.Plan.{Plan}
use Rattle.compile_model.specs.declared.outcome.Outcome.{Outcome}
use Rattle.compile_model.specs.Content.{Content}
use Rattle.tree_store.specs.declared.key.BuildKey.{BuildKey}
use Rattle.tree_store.specs.Known.{Known}
use Rattle.tree_store.specs.Slot.{Slot}
use Rattle.build_plan.specs.Plan.{Build, build_of}
use Rattle.mix_main.specs.declared.command.Command.{Command}
use Rattle.mix_main.specs.declared.command.Command.TheVariants as command
use Rattle.mix_main.specs.declared.command.WordsError.TheVariants as why
use Rattle.mix_main.specs.Compile.{Compiles, IsPlanFor, MayStand, Stands, Works}
use Rattle.mix_main.specs.Compile.Compiles.{refused, unread, unplanned, planned}
use Rattle.mix_main.specs.Compile.MayStand.{part, begun}
use Rattle.mix_main.specs.Compile.Stands.{part as some, begun as first}
use Rattle.mix_main.specs.Ends.{Comes, IsNamed, Misread}
use Rattle.mix_main.specs.Ends.Comes.{refused as misread, asked, unread as unheard}
use Rattle.mix_main.specs.Ends.Misread.{bad_words, no_memory as unsaid}
use Rattle.mix_main.specs.Help.{Helps}
use Rattle.mix_main.specs.Help.Helps.{helped, no_memory as unhelped}
use Rattle.mix_main.specs.Reply.{Reply}
use Rattle.mix_main.specs.Tree.{StaysElsewhere}
use Rattle.mix_main.specs.Words.{alone, command_of, dev}
use Rattle.mix_main.specs.World.{Passage, Site}
use Rattle.mix_main.proofs.PartLemmas.{same_part}

compile_alone : (env : List ℕ) (more : List (List ℕ)) → alone (command.Compile dev) more ≡ Ok (command.Compile env) → env ≡ dev
compile_alone env [] is = cc
compile_alone env (word ∷ more) is = cc

help_alone : (env : List ℕ) (more : List (List ℕ)) → alone command.Help more ≡ Ok (command.Compile env) → env ≡ dev
help_alone env [] is = cc
help_alone env (word ∷ more) is = cc

-- what is compiled is compiled in `dev`
pub asks_dev : (words : List (List ℕ)) (env : List ℕ) → command_of words ≡ Ok (command.Compile env) → env ≡ dev
asks_dev [] env is = cc
asks_dev (word ∷ more) env is = at (bytes_eq word (codes "help")) (bytes_eq word (codes "deps.compile")) is
  where
    at : (help compile : Bool) → cond help (alone command.Help more) (cond compile (alone (command.Compile dev) more) (Err (why.Refused 0))) ≡ Ok (command.Compile env) → env ≡ dev
    at true compile e = help_alone env more e
    at false true e = compile_alone env more e
    at false false e = cc

-- and `dev` has a build name
pub asks_named : (words : List (List ℕ)) (asked : Command) → command_of words ≡ Ok asked → IsNamed asked
asks_named words (command.Help) is = tt
asks_named words (command.Compile env) is = subst (λ (e : List ℕ). HasBuildName e host) (sym (asks_dev words env is)) (omega arith)

pub misread_same : (at : ℕ) (passage : Passage) (reply : Reply) → Misread at passage reply → passage.new ≡ passage.old
misread_same at passage reply (bad_words same e line) = same
misread_same at passage reply (unsaid same e line) = same

helps_same : (passage : Passage) (reply : Reply) → Helps passage reply → passage.new ≡ passage.old
helps_same passage reply (helped same e line) = same
helps_same passage reply (unhelped same e line) = same

slots_stand : (compile : Content → Outcome) (build : Build) (old new : Known) → new.slot ≡ old.slot → MayStand compile build old new
slots_stand compile build old new same = part (same_part old.slot new.slot same)

slots_of : (old new : Site) → new ≡ old → new.store.slot ≡ old.store.slot
slots_of old new same = ap (λ (s : Site). s.store.slot) same

slots_elsewhere : (env : List ℕ) (old new : BuildKey → Slot) → new ≡ old → StaysElsewhere env old new
slots_elsewhere env old new same q e = ap (λ (slots : BuildKey → Slot). slots q) same

works_stand : (compile : Content → Outcome) (build : Build) (plan : Plan) (passage : Passage) (reply : Reply) → IsPlanFor build passage.old.store plan → Works compile plan passage reply → MayStand compile build passage.old.store passage.new.store
works_stand compile build plan passage reply is w = at w.stands
  where
    at : Stands compile plan passage.old.store.slot passage.new.store.slot → MayStand compile build passage.old.store passage.new.store
    at (some p) = part p
    at (first f) = begun plan is f

pub compiles_stand : (compile : Content → Outcome) (build : Build) (passage : Passage) (reply : Reply) → Compiles compile build passage reply → MayStand compile build passage.old.store passage.new.store
compiles_stand compile build passage reply (refused error r) = slots_stand compile build passage.old.store passage.new.store (slots_of passage.old passage.new r.same)
compiles_stand compile build passage reply (unread rose same e line) = slots_stand compile build passage.old.store passage.new.store same
compiles_stand compile build passage reply (unplanned same e line) = slots_stand compile build passage.old.store passage.new.store (slots_of passage.old passage.new same)
compiles_stand compile build passage reply (planned plan is w) = works_stand compile build plan passage reply is w

pub compiles_elsewhere : (compile : Content → Outcome) (build : Build) (passage : Passage) (reply : Reply) → Compiles compile build passage reply → StaysElsewhere (build_name build.env build.target) passage.old.store.slot passage.new.store.slot
compiles_elsewhere compile build passage reply (refused error r) = slots_elsewhere (build_name build.env build.target) passage.old.store.slot passage.new.store.slot (slots_of passage.old passage.new r.same)
compiles_elsewhere compile build passage reply (unread rose same e line) = slots_elsewhere (build_name build.env build.target) passage.old.store.slot passage.new.store.slot same
compiles_elsewhere compile build passage reply (unplanned same e line) =
    slots_elsewhere (build_name build.env build.target) passage.old.store.slot passage.new.store.slot (slots_of passage.old passage.new same)
compiles_elsewhere compile build passage reply (planned plan is w) =
    subst (λ (env : List ℕ). StaysElsewhere env passage.old.store.slot passage.new.store.slot) is.named w.elsewhere

-- what holds after a compile in `dev`, and where the store is as before, holds after any words
comes_leave : (Leaves : Known → Known → Type 0) (compile : Content → Outcome) (words : List (List ℕ)) (passage : Passage) (reply : Reply)
    → (passage.new ≡ passage.old → Leaves passage.old.store passage.new.store)
    → (Compiles compile (build_of dev host) passage reply → Leaves passage.old.store passage.new.store)
    → Comes compile words passage reply → Leaves passage.old.store passage.new.store
comes_leave Leaves compile words passage reply stays compiled (misread at is m) = stays (misread_same at passage reply m)
comes_leave Leaves compile words passage reply stays compiled (asked (command.Help) is h) = stays (helps_same passage reply h)
comes_leave Leaves compile words passage reply stays compiled (asked (command.Compile env) is d) =
    compiled (subst (λ (e : List ℕ). Compiles compile (build_of e host) passage reply) (asks_dev words env is) d)
comes_leave Leaves compile words passage reply stays compiled (unheard same e line) = stays same

pub comes_stand : (compile : Content → Outcome) (words : List (List ℕ)) (passage : Passage) (reply : Reply) → Comes compile words passage reply → MayStand compile (build_of dev host) passage.old.store passage.new.store
comes_stand compile words passage reply comes =
    comes_leave (MayStand compile (build_of dev host)) compile words passage reply
    (λ same. slots_stand compile (build_of dev host) passage.old.store passage.new.store (slots_of passage.old passage.new same))
    (compiles_stand compile (build_of dev host) passage reply) comes

pub comes_elsewhere : (compile : Content → Outcome) (words : List (List ℕ)) (passage : Passage) (reply : Reply) → Comes compile words passage reply → StaysElsewhere dev passage.old.store.slot passage.new.store.slot
comes_elsewhere compile words passage reply comes =
    comes_leave (λ before after. StaysElsewhere dev before.slot after.slot) compile words passage reply
    (λ same. slots_elsewhere dev passage.old.store.slot passage.new.store.slot (slots_of passage.old passage.new same))
    (compiles_elsewhere compile (build_of dev host) passage reply) comes
