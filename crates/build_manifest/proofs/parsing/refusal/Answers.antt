use Rattle.std.proofs.Common.{◌-◌, arith, length, refl, subst}
use Rattle.build_manifest.specs.Fields.{StopsBy}
use Rattle.build_manifest.specs.Mark.{IsMark}
use Rattle.build_manifest.specs.Text.{mark_text}
use Rattle.build_manifest.proofs.MarkRead.{refused_where_stuck, within}
use Rattle.build_manifest.proofs.parsing.refusal.Goals as goal

pub returns-in-Stuck : goal.returns-in-Stuck
returns-in-Stuck c =
    let bytes = c.args.bytes.now in
    let left = c.in-Stuck.stuck.left in
    let stops = subst (StopsBy mark_text IsMark bytes) c.in-Stuck.is c.requires in
    record {
      answer = λ _. refused_where_stuck bytes left (length bytes - left) stops (omega (arith, within mark_text IsMark bytes left stops));
      alone = refl;
    }

pub returns-in-OutOfMemory : goal.returns-in-OutOfMemory
returns-in-OutOfMemory c = record { answer = λ e. absurd (cc e); alone = refl }
