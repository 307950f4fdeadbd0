use Rattle.std.proofs.Common.{rules}
use Rattle.std.specs.Ordering.{is_lt}
use Rattle.std.proofs.lemmas.List.Sorted.{answers_always}
use Rattle.mx_base.specs.Order.{text_cmp}
use Rattle.mx_base.proofs.KeyedOrder.{order_of_answer}
use Rattle.mix_lock.proofs.reader.are_in_order.Goals as goal

pub returns : goal.returns
returns c =
    order_of_answer (λ entry. entry.0) c.args.entries.now c.is_sorted_by.result
    (c.is_sorted_by.ensures.cases (λ one next. is_lt (text_cmp one.0 next.0)) (answers_always _ _ _ (λ f a r g h. search rules)))
