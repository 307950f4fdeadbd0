use Rattle.std.proofs.Common.{◌-◌, Some, None, drop, length, map, string_bytes, take, sym, ◌∙◌, ap}
use Rattle.unitc_call.specs.Words.{task_of}
use Rattle.unitc_call.proofs.WordLemmas.{few_words, task_is, words_are}
use Rattle.unitc_call.proofs.words.read_task.Goals as goal

pub returns-in_default-clause-task : goal.returns-in_default-clause-task
returns-in_default-clause-task c = few_words (λ word. string_bytes word) c.args.words.now c.in_default.len_below

pub returns-in-Some-4-clause-task : goal.returns-in-Some-4-clause-task
returns-in-Some-4-clause-task c =
    task_is c.as_str.result.now c.as_str-6.result.now c.as_str-2.result.now c.as_str-5.result.now c.as_str-3.result.now c.as_str-8.result.now
    c.as_str-4.result.now c.as_str-7.result.now
    (map (λ word. string_bytes word) (take (length c.args.words.now - 8) (drop 8 c.args.words.now)))
    c.in-Some-2.app c.in-Some.env c.in-Some-3.src (Some c.in-Some-4.needs) (sym c.are_options.ensures ∙ c.if-not-are_options.false) (sym c.in-Some.is ∙ c.in_ok-env.ensures)
    (sym c.in-Some-2.is ∙ c.in_ok-app.ensures) (sym c.in-Some-3.is ∙ c.in_ok-src.ensures.folder) (sym c.in-Some-4.is ∙ c.in_ok-needs.ensures)
    ∙ ap task_of (words_are (λ word. string_bytes word) c.args.words.now c.app_is-item.result c.app-item.result c.env_is-item.result c.env-item.result
    c.src_is-item.result c.src-item.result c.out_is-item.result c.out-item.result _ _ _ _ _ _ _ _ c.in-len8-up.len_at_least
    (c.as_str.ensures.value ∙ ap (λ word. string_bytes word) c.app_is-item.is)
    (c.as_str-6.ensures.value ∙ ap (λ word. string_bytes word) c.app-item.is)
    (c.as_str-2.ensures.value ∙ ap (λ word. string_bytes word) c.env_is-item.is)
    (c.as_str-5.ensures.value ∙ ap (λ word. string_bytes word) c.env-item.is)
    (c.as_str-3.ensures.value ∙ ap (λ word. string_bytes word) c.src_is-item.is)
    (c.as_str-8.ensures.value ∙ ap (λ word. string_bytes word) c.src-item.is)
    (c.as_str-4.ensures.value ∙ ap (λ word. string_bytes word) c.out_is-item.is)
    (c.as_str-7.ensures.value ∙ ap (λ word. string_bytes word) c.out-item.is))

pub returns-in-None-clause-task : goal.returns-in-None-clause-task
returns-in-None-clause-task c =
    task_is c.as_str.result.now c.as_str-6.result.now c.as_str-2.result.now c.as_str-5.result.now c.as_str-3.result.now c.as_str-8.result.now
    c.as_str-4.result.now c.as_str-7.result.now
    (map (λ word. string_bytes word) (take (length c.args.words.now - 8) (drop 8 c.args.words.now)))
    c.in-Some-2.app c.in-Some.env c.in-Some-3.src None (sym c.are_options.ensures ∙ c.if-not-are_options.false) (sym c.in-Some.is ∙ c.in_ok-env.ensures)
    (sym c.in-Some-2.is ∙ c.in_ok-app.ensures) (sym c.in-Some-3.is ∙ c.in_ok-src.ensures.folder) (sym c.in-None.is ∙ c.in_ok-needs.ensures)
    ∙ ap task_of (words_are (λ word. string_bytes word) c.args.words.now c.app_is-item.result c.app-item.result c.env_is-item.result c.env-item.result
    c.src_is-item.result c.src-item.result c.out_is-item.result c.out-item.result _ _ _ _ _ _ _ _ c.in-len8-up.len_at_least
    (c.as_str.ensures.value ∙ ap (λ word. string_bytes word) c.app_is-item.is)
    (c.as_str-6.ensures.value ∙ ap (λ word. string_bytes word) c.app-item.is)
    (c.as_str-2.ensures.value ∙ ap (λ word. string_bytes word) c.env_is-item.is)
    (c.as_str-5.ensures.value ∙ ap (λ word. string_bytes word) c.env-item.is)
    (c.as_str-3.ensures.value ∙ ap (λ word. string_bytes word) c.src_is-item.is)
    (c.as_str-8.ensures.value ∙ ap (λ word. string_bytes word) c.src-item.is)
    (c.as_str-4.ensures.value ∙ ap (λ word. string_bytes word) c.out_is-item.is)
    (c.as_str-7.ensures.value ∙ ap (λ word. string_bytes word) c.out-item.is))
