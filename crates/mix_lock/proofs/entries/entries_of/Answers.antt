use Rattle.std.proofs.Common.{◌≡◌, ◌++◌, length, ◌∙◌, ap, arith}
use Rattle.std.specs.Option.{option_to_list}
use Rattle.mix_lock.specs.Blame.{lock_blame}
use Rattle.mix_lock.specs.Says.{AreEntries}
use Rattle.mix_lock.proofs.EntryLemmas.{answers_by_on, nil_of, continues_next, continues_refused, continues_end}
use Rattle.mix_lock.proofs.entries.entries_of.Goals as goal

pub returns-in_err-pair_of : goal.returns-in_err-pair_of
returns-in_err-pair_of c =
    let pairs = c.args.pairs in
    let rest = c.pop.new.self.items in
    let error = c.in_err-pair_of.field-0.0 in
    let split = c.pop.ensures.items ∙ ap (λ found. rest ++ option_to_list found) c.in-Some.is in
    answers_by_on (λ entries. entries.items) lock_blame (AreEntries pairs) c.from_residual-in_err-pair_of.result error c.from_residual-in_err-pair_of.ensures.1
    (λ input. continues_refused pairs c.loop-key.rest.items rest c.in-Some.key c.in-Some.value c.loop-key.entries.items error split
    (c.in_err-pair_of.ensures input) c.loop-key.invariant)

pub loop-key-preserved-in_ok-push : goal.loop-key-preserved-in_ok-push
loop-key-preserved-in_ok-push c =
    let pairs = c.args.pairs in
    let rest = c.pop.new.self.items in
    let split = c.pop.ensures.items ∙ ap (λ found. rest ++ option_to_list found) c.in-Some.is in
    continues_next pairs c.loop-key.rest.items rest c.in-Some.key c.in-Some.value c.loop-key.entries.items c.push.new.self.items
    c.in_ok-pair_of.field-0 split c.in_ok-push.ensures.items c.in_ok-pair_of.ensures c.loop-key.invariant

pub returns : goal.returns
returns c =
    let none = rw c.in_default.is at c.pop.ensures.cases in
    let empty : length c.loop-key.rest.items ≡ 0 = omega (arith, none.0, c.loop-key.rest.ok.0) in
    continues_end c.args.pairs c.loop-key.rest.items c.loop-key.entries.items (nil_of c.loop-key.rest.items empty) c.loop-key.invariant
