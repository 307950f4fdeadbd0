use Rattle.std.proofs.Common.{◌≡◌, ◌<◌, ◌∙◌, ℕ, List, [], length, get_or, arith}
use Rattle.std.specs.List.{list_any}
use Rattle.std.specs.Ordering.{is_eq}
use Rattle.std.proofs.lemmas.List.{get_or_default}
use Rattle.mx_base.specs.Order.{text_cmp}
use Rattle.converger.specs.Strays.{IsStray}
use Rattle.converger.proofs.EnvLemmas.{tried_first, tried_more, tried_all}
use Rattle.converger.proofs.UnnamedLemmas.{env_stray}
use Rattle.converger.proofs.strays.add_for_target.Goals as goal

pub loop-env-init : goal.loop-env-init
loop-env-init c =
    let rows = c.args.rows.now.rows in
    let target = c.args.target.now in
    record {
      long = c.in_ok-add_strays.ensures.long;
      marks = tried_first c.args.strays.now.items (λ env other. IsStray rows env target other) c.args.envs.now c.add_strays.new.strays.items
          (rw (c.in_ok-web.ensures.rows, c.in_ok-web.ensures.target) at c.in_ok-add_strays.ensures.marks);
    }

pub loop-env-preserved : goal.loop-env-preserved
loop-env-preserved c =
    let rows = c.args.rows.now.rows in
    let target = c.args.target.now in
    let names = c.args.envs.now in
    let i = c.loop-env.env-index in
    let within : i < length names = omega arith in
    record {
      long = c.in_ok-add_strays-2.ensures.long ∙ c.loop-env.invariant.long;
      marks = tried_more c.args.strays.now.items (λ env other. IsStray rows env target other) names i
          (get_or names i (record { ref_ptr = (0, 0); now = [] })) (get_or_default names i _ _ within) within c.loop-env.strays.items
          c.add_strays-in-loop-env.new.strays.items c.loop-env.invariant.marks
          (rw (c.in_ok-web.ensures.rows, c.in_ok-web.ensures.target) at c.in_ok-add_strays-2.ensures.marks);
    }

pub returns-clause-marks : goal.returns-clause-marks
returns-clause-marks c =
    let rows = c.args.rows.now.rows in
    let target = c.args.target.now in
    let names = c.args.envs.now in
    tried_all c.args.strays.now.items (λ env other. IsStray rows env target other) names
    (λ env q none s. env_stray rows (λ e. list_any (λ name. is_eq (text_cmp e name.now)) names) c.requires.named env [] target none
    c.requires.unnamed q s) c.loop-env.env-index (omega arith) c.loop-env.strays.items c.loop-env.invariant.marks
