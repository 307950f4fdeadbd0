use Rattle.std.proofs.Common.{map, string_bytes, sym, ◌∙◌, ap}
use Rattle.unitc_call.specs.Words.{needs_of}
use Rattle.unitc_call.proofs.WordLemmas.{needs_on, none_left}
use Rattle.unitc_call.proofs.words.needs.Goals as goal

pub loop-rest-preserved : goal.loop-rest-preserved
loop-rest-preserved c =
    let rest = c.loop-rest.rest.now in
    needs_on (λ word. string_bytes word) c.args.env.now (needs_of c.args.env.now (map (λ word. string_bytes word) c.args.words.now)) c.loop-rest.needs.items
    c.push.new.self.items rest c.option-item.result c.app-item.result c.folder-item.result c.as_str.result.now c.as_str-in-len3-up.result.now
    c.as_str-in-len3-up-2.result.now c.in-Some.app c.in-len3-up.len_at_least
    (c.as_str.ensures.value ∙ ap (λ word. string_bytes word) c.option-item.is)
    (c.as_str-in-len3-up.ensures.value ∙ ap (λ word. string_bytes word) c.app-item.is)
    (c.as_str-in-len3-up-2.ensures.value ∙ ap (λ word. string_bytes word) c.folder-item.is)
    c.loop-rest.invariant (sym c.in-Some.is ∙ c.in_ok-app.ensures) c.in_ok-push.ensures.items

pub returns-else-is_empty : goal.returns-else-is_empty
returns-else-is_empty c =
    none_left (λ word. string_bytes word) c.args.env.now (needs_of c.args.env.now (map (λ word. string_bytes word) c.args.words.now)) c.loop-rest.needs.items
    c.loop-rest.rest.now c.loop-rest.invariant c.in_default.len_below (sym c.if-is_empty.false ∙ c.is_empty.ensures)
