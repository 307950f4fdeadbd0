use Rattle.std.proofs.Common.{length, arith}
use Rattle.mx_base.specs.AppName.{IsAppName}
use Rattle.partition_frames.specs.Frame.{number_field, text_field}
use Rattle.partition_frames.proofs.Pushes.{all_known, all_pushed, one_known, one_pushed}
use Rattle.partition_frames.proofs.writing.push_names.Goals as goal

pub loop-i-preserved : goal.loop-i-preserved
loop-i-preserved c =
    let names = c.args.names.now in
    let i = c.loop-i.i in
    let name = c.index-names-i.result in
    record {
      bytes = one_pushed text_field (number_field (length names)) names i name c.args.out.now.items c.loop-i.out.items _ c.loop-i-test.true
          c.index-names-i.is c.loop-i.invariant.bytes c.in_ok-push_name.ensures.bytes;
      known = one_known IsAppName names i name c.loop-i.invariant.known c.in_ok-push_name.ensures.sound c.loop-i-test.true c.index-names-i.is;
    }

pub returns : goal.returns
returns c = record {
  bytes = all_pushed text_field (number_field (length c.args.names.now)) c.args.names.now c.loop-i.i c.args.out.now.items _ (omega arith)
      c.loop-i.invariant.bytes;
  sound = all_known IsAppName c.args.names.now c.loop-i.i (omega arith) c.loop-i.invariant.known;
}
