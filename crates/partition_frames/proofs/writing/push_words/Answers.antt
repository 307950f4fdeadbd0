use Rattle.std.proofs.Common.{length, arith}
use Rattle.partition_frames.specs.Frame.{IsText, number_field, text_field}
use Rattle.partition_frames.proofs.Pushes.{all_pushed, one_at, one_pushed}
use Rattle.partition_frames.proofs.writing.push_words.Goals as goal

pub push_word-requires : goal.push_word-requires
push_word-requires c =
    one_at IsText c.args.words.now c.loop-i.i c.index-words-i.result c.requires.1 c.loop-i-test.true c.index-words-i.is

pub loop-i-preserved : goal.loop-i-preserved
loop-i-preserved c =
    one_pushed text_field (number_field (length c.args.words.now)) c.args.words.now c.loop-i.i c.index-words-i.result c.args.out.now.items
    c.loop-i.out.items _ c.loop-i-test.true c.index-words-i.is c.loop-i.invariant c.in_ok-push_word.ensures

pub returns : goal.returns
returns c =
    all_pushed text_field (number_field (length c.args.words.now)) c.args.words.now c.loop-i.i c.args.out.now.items _ (omega arith)
    c.loop-i.invariant
