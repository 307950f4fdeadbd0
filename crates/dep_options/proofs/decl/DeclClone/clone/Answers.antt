use Rattle.std.proofs.Common.{◌≡◌, ℕ, List, rules}
use Rattle.std.proofs.lemmas.List.Elements.{same_from_all_zip}
use Rattle.mx_base.specs.declared.variable.Variable.{Variable}
use Rattle.dep_options.proofs.Copies.{same_option, same_source}
use Rattle.dep_options.proofs.decl.DeclClone.clone.Goals as goal

pub returns : goal.returns
returns c =
    let app : c.in_ok-clone.field-0 ≡ c.args.self.now.app = search rules in
    let requirement : c.in_ok-clone-2.field-0 ≡ c.args.self.now.requirement = same_option (λ x y. y ≡ x) (λ x y h. h) c.args.self.now.requirement c.in_ok-clone-2.field-0 c.in_ok-clone-2.ensures.cases in
    let source : c.in_ok-clone-3.field-0 ≡ c.args.self.now.source = c.in_ok-clone-3.ensures.cases in
    let only : c.in_ok-clone-4.field-0 ≡ c.args.self.now.only = same_option _ (λ xs ys h. same_from_all_zip {X = List ℕ} _ xs ys h (λ x y same. search rules)) c.args.self.now.only c.in_ok-clone-4.field-0 c.in_ok-clone-4.ensures.cases in
    let targets : c.in_ok-clone-5.field-0 ≡ c.args.self.now.targets = same_option _ (λ xs ys h. same_from_all_zip {X = List ℕ} _ xs ys h (λ x y same. search rules)) c.args.self.now.targets c.in_ok-clone-5.field-0 c.in_ok-clone-5.ensures.cases in
    let env : c.in_ok-clone-6.field-0 ≡ c.args.self.now.env = search rules in
    let compile : c.in_ok-clone-7.field-0 ≡ c.args.self.now.compile = c.in_ok-clone-7.ensures.cases in
    let system_env : c.in_ok-clone-8.field-0 ≡ c.args.self.now.system_env = same_from_all_zip {X = Variable} (λ x y. y ≡ x) c.args.self.now.system_env c.in_ok-clone-8.field-0 c.in_ok-clone-8.ensures.cases (λ x y h. h) in
    record { cases = rw (app, requirement, only, targets, env, compile, system_env) (same_source c.args.self.now c.in_ok-clone-3.field-0 _ source) }
