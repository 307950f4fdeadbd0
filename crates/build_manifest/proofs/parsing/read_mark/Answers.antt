use Rattle.std.proofs.Common.{◌-◌, ap, arith, length, length-append, refl, sym, ◌∙◌}
use Rattle.std.proofs.lemmas.Bool.{eqb-true}
use Rattle.build_manifest.specs.Text.{mark_text}
use Rattle.build_manifest.proofs.MarkRead.{refused_behind, spelled_whole}
use Rattle.build_manifest.proofs.NameReads.{some_bytes}
use Rattle.build_manifest.proofs.parsing.read_mark.Goals as goal

pub returns-then-not-is_empty : goal.returns-then-not-is_empty
returns-then-not-is_empty c =
    let bytes = c.args.bytes.now in
    let mark = c.in-Ok.read.0 in
    let rest = c.in-Ok.read.1.now in
    let cut = c.in-Ok.ensures.1 in
    record {
      answer = λ _. refused_behind mark bytes rest (length bytes - length rest) c.in-Ok.ensures.0 cut
          (some_bytes (length rest) (sym c.is_empty.ensures ∙ c.if-not-is_empty.true))
          (omega (arith, ap length cut, length-append (mark_text mark) rest));
      alone = refl;
    }

pub returns : goal.returns
returns c =
    let rest = c.in-Ok.read.1.now in
    record {
      answer = (
        c.in-Ok.ensures.0,
        spelled_whole c.in-Ok.read.0 c.args.bytes.now rest c.in-Ok.ensures.1
            (eqb-true (length rest) 0 (sym c.is_empty.ensures ∙ c.if-not-is_empty.false)),
      );
      alone = refl;
    }
