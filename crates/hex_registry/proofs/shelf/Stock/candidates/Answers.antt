use Rattle.std.proofs.Common.{◌≡◌, ℕ, List, map, option_copied, sym, ap, subst, ◌∙◌, rules}
use Rattle.std.specs.Ordering.{is_lt}
use Rattle.std.proofs.lemmas.List.Sorted.{IsPermutation-map, answers_always, ranks_by}
use Rattle.hex_registry.specs.Candidates.{Ranked, candidate_cmp, candidate_in, locked_place, usable_from}
use Rattle.hex_registry.specs.declared.candidates.Candidate.{Candidate}
use Rattle.hex_registry.proofs.CandidateLemmas.{candidate_total, seen_places, seen_sorted, sorted_candidates}
use Rattle.hex_registry.proofs.UsableLemmas.{AreUsable, usable_are}
use Rattle.hex_registry.proofs.shelf.Stock.candidates.Goals as goal

pub returns : goal.returns
returns c =
    let stock = c.args.self.now in
    let locked = option_copied c.args.locked in
    let usable = c.in_ok-candidates.candidates.items in
    let sorted = c.sort_unstable_by.new.self.items in
    let are : AreUsable c.args.self.now (locked_place c.args.self.now (option_copied c.args.locked)) (map candidate_in c.in_ok-candidates.candidates.items) =
    subst (λ (cs : List Ranked). AreUsable c.args.self.now (locked_place c.args.self.now (option_copied c.args.locked)) cs)
    (sym (c.in_ok-candidates.ensures ∙ ap (λ o. usable_from o 0 c.args.self.now.offers) c.locked_place.ensures))
    (usable_are c.args.self.now (locked_place c.args.self.now (option_copied c.args.locked))) in
    let up = c.sort_unstable_by.ensures.sorted (λ (x y : Candidate). is_lt (candidate_cmp (candidate_in x) (candidate_in y)))
    (ranks_by candidate_total candidate_in) (answers_always _ _ _ (λ f a r g h. search rules)) in
    sorted_candidates c.args.self.now (option_copied c.args.locked) (map candidate_in c.in_ok-candidates.candidates.items)
    (map candidate_in c.sort_unstable_by.new.self.items) c.in_ok-places.places.items are
    (IsPermutation-map candidate_in c.in_ok-candidates.candidates.items c.sort_unstable_by.new.self.items c.sort_unstable_by.ensures.permutation)
    (seen_sorted c.sort_unstable_by.new.self.items up)
    (c.in_ok-places.ensures ∙ ap (λ (cs : List Candidate). map (λ (x : Candidate). x.place) cs) c.deref.ensures.value ∙ sym
    (seen_places c.sort_unstable_by.new.self.items))
