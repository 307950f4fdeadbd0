use Rattle.std.proofs.Common.{◌≡◌, ◌+◌, ◌-◌, ◌%◌, ℕ, suc, List, map, min, ◌∙◌, ap, arith}
use Rattle.unit_gen.specs.Dependency.{asked, firsts, need_of}
use Rattle.unit_gen.specs.Stream.{draw_at, draws, number_at, step}
use Rattle.unit_gen.proofs.DrawLemmas.{later_draws, later_number}
use Rattle.unit_gen.proofs.dependency.draw.Goals as goal

pub returns-clause-drawn : goal.returns-clause-drawn
returns-clause-drawn c =
    let x : ℕ = c.args.stream.now in
    let number : ℕ = c.args.number in
    let next : c.draw.new.self ≡ number_at x 1 = c.draw.ensures.on in
    let count : c.min-asked.result ≡ asked x number = c.min-asked.ensures ∙ ap (λ (d : ℕ). min (number - 1) (d % 4)) c.draw.ensures.drawn in
    let needs =
    c.in_ok-needs.ensures.needs
    ∙ (λ i. firsts (map (need_of number) (draws (next i) 0 (count i))))
    ∙ ap (λ (ds : List ℕ). firsts (map (need_of number) ds)) (later_draws x (asked x number)) in
    let last = c.in_ok-needs.ensures.on ∙ (λ i. number_at (next i) (count i)) ∙ later_number x (asked x number) in
    let value = c.draw-value.ensures.drawn ∙ ap (λ (s : ℕ). draw_at s 0) last in
    λ i. record { number = number; needs = needs i; value = value i % 1000 }

pub returns-clause-on : goal.returns-clause-on
returns-clause-on c =
    let x : ℕ = c.args.stream.now in
    let number : ℕ = c.args.number in
    let next : c.draw.new.self ≡ number_at x 1 = c.draw.ensures.on in
    let count : c.min-asked.result ≡ asked x number = c.min-asked.ensures ∙ ap (λ (d : ℕ). min (number - 1) (d % 4)) c.draw.ensures.drawn in
    let last = c.in_ok-needs.ensures.on ∙ (λ i. number_at (next i) (count i)) ∙ later_number x (asked x number) in
    let two : suc (1 + asked x number) ≡ asked x number + 2 = omega arith in
    c.draw-value.ensures.on ∙ ap step last ∙ ap (number_at x) two
