use Rattle.std.proofs.Common.{sym, ap, ◌∙◌}
use Rattle.term_tokens.specs.Lexed.{with_bytes, spelt_at}
use Rattle.term_tokens.specs.Lexing.{spelled}
use Rattle.term_tokens.proofs.InsideLemmas.{spelt_more}
use Rattle.term_tokens.proofs.strings.spelt.Goals as goal

pub loop-value-preserved : goal.loop-value-preserved
loop-value-preserved c =
    ap (λ bytes. with_bytes bytes (spelt_at c.in-Some.after.now)) c.in_ok-push.ensures
    ∙ spelt_more c.loop-value.bytes.items (spelled c.in-Some.value) c.loop-value.rest.now c.in-Some.after.now (spelt_at c.args.text.now) (sym c.in-Some.ensures.value) c.loop-value.invariant
