use Rattle.std.proofs.Common.{rules}
use Rattle.std.specs.Ordering.{is_lt}
use Rattle.std.proofs.lemmas.List.Sorted.{answers_always}
use Rattle.mx_base.specs.Order.{text_cmp}
use Rattle.mx_base.proofs.KeyedOrder.{order_of_answer}
use Rattle.mx_base.proofs.listing.are_in_order.Goals as goal

pub returns : goal.returns
returns c =
    order_of_answer (λ row. row.path) c.args.rows.now c.is_sorted_by.result
    (c.is_sorted_by.ensures.cases (λ one next. is_lt (text_cmp one.path next.path)) (answers_always _ _ _ (λ f a r g h. search rules)))
