use Rattle.std.proofs.Common.{◌≡◌, true, refl}
use Rattle.partition_frames.proofs.Wholes.{bad_kind}
use Rattle.partition_frames.proofs.parsing.opened.Goals as goal

pub returns-then-not-is_in_range : goal.returns-then-not-is_in_range
returns-then-not-is_in_range c =
    let size = c.in-Some.size in (
      refl,
      record {
        size = size;
        rest = c.in-Some.rest.now;
        stated = c.in-Some.ensures.some;
        outside = λ range. let yes : c.is_in_range.result ≡ true = c.is_in_range.ensures.1 range in absurd (cc (yes, c.if-not-is_in_range.true));
      },
    )

pub returns-then-not-may_have_kind : goal.returns-then-not-may_have_kind
returns-then-not-may_have_kind c = (
  refl,
  bad_kind c.args.bytes.now c.in-Some.rest.now c.in-Some.size c.in-Some.ensures.some (c.is_in_range.ensures.0 c.if-not-is_in_range.false)
      (λ may. let yes : c.may_have_kind.result ≡ true = c.may_have_kind.ensures.1 may in absurd (cc (yes, c.if-not-may_have_kind.true))),
)

pub returns : goal.returns
returns c = record {
  rest = c.in-Some.rest.now;
  stated = c.in-Some.ensures.some;
  range = c.is_in_range.ensures.0 c.if-not-is_in_range.false;
  kind = c.may_have_kind.ensures.0 c.if-not-may_have_kind.false;
}
