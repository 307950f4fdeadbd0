use Rattle.std.proofs.Common.{◌∙◌, ◌-◌, [], sym, take, drop}
use Rattle.term_tokens.specs.Lexing.{words_from}
use Rattle.term_tokens.proofs.ListedWords.{cut_blank, cut_more}
use Rattle.term_tokens.proofs.words.cut.Goals as goal
use Rattle.term_tokens.proofs.words.cut.Goals.{then-is_blank+in_ok-push_word, else-is_blank}

pub loop-end-preserved : goal.loop-end-preserved
loop-end-preserved c =
    let text = c.args.text.now in
    let whole = words_from [] text in
    let start = c.loop-end.start in
    let at = c.loop-end.end in
    elim c.if-is_blank.branch [
      | then-is_blank+in_ok-push_word w ↦ cut_blank c.loop-end.words c.if-is_blank.words whole (take (at - start) (drop start text)) text at c.if-is_blank.start c.loop-end-test.true (sym c.is_blank.ensures ∙ w.if-is_blank.true) c.loop-end.invariant.1 (w.words-is ∙ w.in_ok-push_word.ensures) w.start-is
      | else-is_blank w ↦ cut_more c.loop-end.words c.if-is_blank.words whole text start at c.if-is_blank.start c.loop-end.invariant.0 c.loop-end-test.true (sym c.is_blank.ensures ∙ w.if-is_blank.false) c.loop-end.invariant.1 w.words-is w.start-is
    ]
