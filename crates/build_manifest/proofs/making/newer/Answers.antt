use Rattle.std.proofs.Common.{◌≡◌, length, ap, ◌∙◌}
use Rattle.build_manifest.proofs.MarkOfLemmas.{as_many_digests, diagnosed_fit}
use Rattle.build_manifest.proofs.making.newer.Goals as goal

pub invariant_of-result : goal.invariant_of-result
invariant_of-result c =
    let digests = c.in_ok-diagnostics.diagnostics in
    let sources = c.mark.inside.sources in
    let held = c.mark.invariant in
    let long : length digests ≡ length sources =
    as_many_digests c.as_slice.result.now c.as_slice-2.result.now digests c.in_ok-diagnostics.ensures.are ∙ ap length c.as_slice.ensures.value in
    record {
      options = held.options;
      sources = held.sources;
      lines = diagnosed_fit digests sources long c.in_ok-diagnostics.ensures.each c.as_slice.ensures.rows;
      no_more = long;
      needs = held.needs;
      apart = held.apart;
      outputs = held.outputs;
      rows = held.rows;
      text = held.text;
    }
