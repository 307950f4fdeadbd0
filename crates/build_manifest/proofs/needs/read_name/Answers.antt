use Rattle.std.proofs.Common.{ℕ, List, ◌≡◌, ◌<◌, ◌++◌, length, ap, sym, ◌∙◌, subst, true≢false}
use Rattle.std.proofs.lemmas.Bool.{eqb-true}
use Rattle.reading.specs.Field.{Stops}
use Rattle.reading.specs.declared.stuck.Stuck.{Stuck}
use Rattle.build_manifest.specs.Fields.{ended}
use Rattle.build_manifest.specs.Names.{IsFreeName, NoneHas}
use Rattle.build_manifest.proofs.FreeNames.{some_free}
use Rattle.build_manifest.proofs.NameReads.{is_name, name_read, nothing_begins, some_bytes, unended, used_up}
use Rattle.build_manifest.proofs.needs.read_name.Goals as goal

pub returns-then-is_empty : goal.returns-then-is_empty
returns-then-is_empty c =
    let listed = c.args.needs.now.listed.items in
    let text = c.args.text.now in
    let front = c.name_front-front.result.now in
    subst (λ (n : ℕ). Stops ended (IsFreeName listed) text n) (sym (ap (λ (s : Stuck). s.left) c.stuck_at.ensures))
    (nothing_begins listed text front c.name_front-front.ensures (eqb-true (length front) 0 (sym c.is_empty.ensures ∙ c.if-is_empty.true))
    (some_free listed c.requires.few))

pub returns-then-not-is_free : goal.returns-then-not-is_free
returns-then-not-is_free c =
    let listed = c.args.needs.now.listed.items in
    let text = c.args.text.now in
    let front = c.name_front-front.result.now in
    subst (λ (n : ℕ). Stops ended (IsFreeName listed) text n) (sym (ap (λ (s : Stuck). s.left) c.stuck_at-then-not-is_free.ensures))
    (used_up listed text front c.in_ok-free.free.now c.name_front-front.ensures c.in_ok-free.ensures
    (λ is. true≢false (sym (c.is_free.ensures.1 (subst (NoneHas listed) (sym c.in_ok-app.ensures) is.free)) ∙ c.if-not-is_free.true)))

pub returns-in_default : goal.returns-in_default
returns-in_default c =
    let listed = c.args.needs.now.listed.items in
    let text = c.args.text.now in
    let front = c.name_front-front.result.now in
    let long = c.name_front-front.ensures in
    let some : 0 < length front = some_bytes (length front) (sym c.is_empty.ensures ∙ c.if-is_empty.false) in
    let free : IsFreeName listed front = record {
      proper = is_name text front long some;
      free = subst (NoneHas listed) c.in_ok-app.ensures (c.is_free.ensures.0 c.if-not-is_free.false);
    } in
    subst (λ (n : ℕ). Stops ended (IsFreeName listed) text n) (sym (ap (λ (s : Stuck). s.left) c.stuck_at-in_default.ensures))
    (unended listed text front long free c.in_default.ensures.none)

pub returns : goal.returns
returns c =
    let listed = c.args.needs.now.listed.items in
    let text = c.args.text.now in
    let front = c.name_front-front.result.now in
    let long = c.name_front-front.ensures in
    let rest = c.in-Some.rest.now in
    let some : 0 < length front = some_bytes (length front) (sym c.is_empty.ensures ∙ c.if-is_empty.false) in
    let free : IsFreeName listed front = record {
      proper = is_name text front long some;
      free = subst (NoneHas listed) c.in_ok-app.ensures (c.is_free.ensures.0 c.if-not-is_free.false);
    } in
    subst (λ (app : List ℕ). IsFreeName listed app × (text ≡ ended app ++ rest)) (sym c.in_ok-app.ensures)
    (free, name_read text front rest long c.in-Some.ensures.some)
