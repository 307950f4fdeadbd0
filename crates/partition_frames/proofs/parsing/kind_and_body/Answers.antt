use Rattle.std.proofs.Common.{◌≡◌, ◌-◌, drop, get_or, length, length-drop, sym, subst, ap, take, ◌∙◌}
use Rattle.std.proofs.Math.Seq.{take-length}
use Rattle.partition_frames.specs.Reading.{HasBody}
use Rattle.partition_frames.proofs.Wholes.{whole_body}
use Rattle.partition_frames.proofs.parsing.kind_and_body.Goals as goal

pub returns : goal.returns
returns c =
    let bytes = c.args.bytes.now in
    let all : take (length bytes - 5) (drop 5 bytes) ≡ drop 5 bytes =
    ap (λ n. take n (drop 5 bytes)) (sym (length-drop 5 bytes)) ∙ take-length (drop 5 bytes) in
    subst (HasBody bytes (get_or bytes 4 0)) (sym all) (whole_body bytes c.requires)
