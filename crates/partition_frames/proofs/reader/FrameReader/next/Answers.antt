use Rattle.std.proofs.Common.{◌+◌, arith, refl}
use Rattle.std.proofs.lemmas.Result.{err_from_is_err_and}
use Rattle.partition_frames.proofs.Wholes.{front_whole, left_behind, next_given, next_none, next_refused}
use Rattle.partition_frames.proofs.reader.FrameReader.next.Goals as goal

pub returns-then-held-used-clause-answer : goal.returns-then-held-used-clause-answer
returns-then-held-used-clause-answer c =
    let items = c.self.inside.held.items in
    let o = rw c.in-Some.is at c.in_ok-size.ensures in
    next_none c.args.self.now items c.in-Some.size c.len-held.result (cc c.self.view_is) o c.len-held.ensures.len c.if-held-used.true

pub read_front-requires-clause-whole : goal.read_front-requires-clause-whole
read_front-requires-clause-whole c =
    let items = c.self.inside.held.items in
    let o = rw c.in-Some.is at c.in_ok-size.ensures in
    front_whole items c.in-Some.size (4 + c.in-Some.size) o refl (omega (arith, c.len-held.ensures.len, c.if-held-used.false))

pub returns-in_err-frame-clause-answer : goal.returns-in_err-frame-clause-answer
returns-in_err-frame-clause-answer c =
    let items = c.self.inside.held.items in
    let e = c.in_err-frame.field-0.0 in
    let p = err_from_is_err_and c.from_residual-in_err-frame.result c.from_residual-in_err-frame.ensures.1 in
    rw (p.1, p.2) (next_refused c.args.self.now items _ (4 + c.in-Some.size) e (cc c.self.view_is) c.in_err-frame.ensures.answer)

pub returns-clause-answer : goal.returns-clause-answer
returns-clause-answer c =
    let items = c.self.inside.held.items in
    let left = left_behind c.self.inside.held c.read_front.new.held c.truncate_front.new.self c.len-held.result (4 + c.in-Some.size)
    c.in_ok-frame.ensures.held c.len-held.ensures.len c.if-held-used.false c.truncate_front.ensures in
    next_given c.args.self.now items _ (4 + c.in-Some.size) c.in_ok-frame.frame (cc c.self.view_is) c.in_ok-frame.ensures.answer.answer left
