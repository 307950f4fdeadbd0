use Rattle.std.proofs.Common.{◌<◌, ℕ, List, length, sym, ap, ◌∙◌, arith}
use Rattle.mx_base.specs.declared.file.File.{File}
use Rattle.mx_base.specs.Order.{bytes_at}
use Rattle.compile_model.specs.declared.outcome.Outcome.{Outcome}
use Rattle.unit_compile.specs.Faces.{face_name}
use Rattle.unit_compile.proofs.NeedLemmas.{found, passed}
use Rattle.unit_compile.proofs.needs.Needs.face.Goals as goal

pub loop-place-preserved : goal.loop-place-preserved
loop-place-preserved c =
    let less : c.loop-place.place < length c.args.self.now.apps.now = omega arith in
    passed c.args.self.now.apps.now c.args.self.now.outcomes.now c.loop-place.place c.other-item.result c.args.app.now c.args.unit.now _ less c.args.self.now.paired
    c.other-item.is (sym c.eq.ensures ∙ c.if-eq.false) c.loop-place.invariant

pub returns-then-eq : goal.returns-then-eq
returns-then-eq c =
    let less : c.loop-place.place < length c.args.self.now.apps.now = omega arith in
    c.bytes_at.ensures
    ∙ ap (λ (path : List ℕ). bytes_at path c.as_slice-files.result.now) (c.as_slice-then-eq.ensures.value ∙ c.in_ok-name.ensures ∙ ap face_name c.as_slice.ensures)
    ∙ ap (λ (files : List File). bytes_at (face_name c.args.unit.now) files) (c.as_slice-files.ensures.value ∙ ap (λ (o : Outcome). o.files) c.get.ensures)
    ∙ found c.args.self.now.apps.now c.args.self.now.outcomes.now c.loop-place.place c.other-item.result c.args.app.now c.args.unit.now c.index-self-place.result _ less c.args.self.now.paired
    c.other-item.is (sym c.eq.ensures ∙ c.if-eq.true) c.loop-place.invariant
