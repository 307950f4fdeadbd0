use Rattle.elixir_terms.specs.Reading.{trailing, deep_words}
use Rattle.elixir_terms.proofs.reading.stop_before.Goals as goal

pub returns-in-Done : goal.returns-in-Done
returns-in-Done c = trailing c.in-Done.term c.in-Done.is

pub returns-then-begins_deep_words : goal.returns-then-begins_deep_words
returns-then-begins_deep_words c = let words = c.begins_deep_words.ensures.deep c.if-begins_deep_words.true in deep_words words.0 words.1 words.2 words.3

pub returns : goal.returns
returns c = (c.in_default.not-Done, c.begins_deep_words.ensures.room c.if-begins_deep_words.false)
