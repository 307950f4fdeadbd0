use Rattle.std.proofs.Common.{List, ℕ, arith, subst}
use Rattle.std.specs.Prelude.{string_bytes}
use Rattle.mix_words.specs.Live.{Dies, Follows}
use Rattle.mix_words.specs.Sofar.{place_of}
use Rattle.mix_words.proofs.ReadLemmas.{computes_stopped, led_one_more, refused_in_the_end, refused_there}
use Rattle.mix_words.proofs.read.read_pieces.Goals as goal

pub returns-in-Err : goal.returns-in-Err
returns-in-Err c = computes_stopped c.args.verb _ c.in-Err.stop c.loop-at.at c.refused.result c.refused.ensures
    (λ is. refused_there (λ word. string_bytes word) c.args.verb c.args.words.now c.loop-at.at c.index-words-at.result (place_of c.loop-at.reader)
    (omega arith) c.index-words-at.is c.loop-at.invariant
    (subst (λ (w : List ℕ). Dies (place_of c.loop-at.reader) w) c.as_str.ensures.value (c.in-Err.ensures is)))

pub loop-at-preserved : goal.loop-at-preserved
loop-at-preserved c = led_one_more (λ word. string_bytes word) c.args.verb c.args.words.now c.loop-at.at c.index-words-at.result
    (place_of c.loop-at.reader) (place_of c.in-Ok.reader) (omega arith) c.index-words-at.is c.loop-at.invariant
    (subst (λ (w : List ℕ). Follows (place_of c.loop-at.reader) w (place_of c.in-Ok.reader)) c.as_str.ensures.value c.in-Ok.ensures)

pub returns-in-Err-finish : goal.returns-in-Err-finish
returns-in-Err-finish c = computes_stopped c.args.verb _ c.in-Err-finish.stop _ c.refused-in-Err-finish.result c.refused-in-Err-finish.ensures
    (λ is. refused_in_the_end (λ word. string_bytes word) c.args.verb c.args.words.now c.loop-at.at (place_of c.loop-at.reader)
    (omega arith) (omega arith) c.loop-at.invariant (c.in-Err-finish.ensures is))
