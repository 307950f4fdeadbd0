-- One answer for the terms of a manifest.
use Rattle.std.proofs.Common.{◌≡◌, ℕ, Bool, true, false, List, [], ◌∷◌, Option, Some, None, Result, Ok, Err, refl, sym, ◌∙◌, ap, subst}
use Rattle.term_values.specs.declared.term.Term.{Term}
use Rattle.version_req.specs.Condition.{Alternatives}
use Rattle.version_req.specs.Grammar.{Spells}
use Rattle.dep_options.specs.declared.decl.Decl.{Decl}
use Rattle.dep_options.specs.declared.error.OptionCause.{OptionCause}
use Rattle.dep_options.specs.declared.error.OptionError.{OptionError}
use Rattle.dep_options.specs.Options.{first_fault}
use Rattle.term_values.specs.Views.{list_of}
use Rattle.dep_options.specs.Decls.{Written, written_of, IsRequirement, IsBadRequirement, has_source, decl_of, IsDecl, shape, requirement, option, source, good, AreDeclsFrom, end, refused, later, more, AreDecls, no_list, items}

-- no text spells two requirements
abbrev pub OneRequirement : Type 0
OneRequirement = (text : List ℕ) (a b : Alternatives) → Spells text a → Spells text b → a ≡ b

same_requirement : OneRequirement → (text : Option (List ℕ)) (a b : Option Alternatives) → IsRequirement text a → IsRequirement text b → a ≡ b
same_requirement one None a b p q = p ∙ sym q
same_requirement one (Some text) None b p q = absurd p
same_requirement one (Some text) (Some a) None p q = absurd q
same_requirement one (Some text) (Some a) (Some b) p q = ap (λ (x : Alternatives). Some x) (one text a b p q)

not_bad : (text : Option (List ℕ)) (a : Option Alternatives) → IsRequirement text a → IsBadRequirement text → ⊥
not_bad None a p q = q
not_bad (Some text) None p q = p
not_bad (Some text) (Some a) p q = q a p

one_written : (o : Option Written) (w x : Written) → o ≡ Some w → o ≡ Some x → w ≡ x
one_written o w x e f = cc

nothing_written : (o : Option Written) (w : Written) → o ≡ None → o ≡ Some w → ⊥
nothing_written o w e f = cc

clash_bad : (o : Option Written) (w x : Written) (r : Option Alternatives) → o ≡ Some w → o ≡ Some x → IsBadRequirement w.requirement → IsRequirement x.requirement r → ⊥
clash_bad o w x r e f bad is =
    not_bad x.requirement r is (subst (λ (v : Written). IsBadRequirement v.requirement) (one_written o w x e f) bad)

fault_at : (base : List ℕ) (o : Option Written) (w x : Written) (fault : Option OptionCause) → o ≡ Some w → o ≡ Some x → first_fault base [] w.options ≡ fault → first_fault base [] x.options ≡ fault
fault_at base o w x fault e f is = subst (λ (v : Written). first_fault base [] v.options ≡ fault) (one_written o w x e f) is

two_faults : (fault : Option OptionCause) (cause : OptionCause) → fault ≡ None → fault ≡ Some cause → ⊥
two_faults fault cause e f = cc

same_fault : (fault : Option OptionCause) (c d : OptionCause) → fault ≡ Some c → fault ≡ Some d → c ≡ d
same_fault fault c d e f = cc

clash_source : (o : Option Written) (w x : Written) → o ≡ Some w → o ≡ Some x → has_source w ≡ false → has_source x ≡ true → ⊥
clash_source o w x e f lacks has = differ (has_source x) (subst (λ (v : Written). has_source v ≡ false) (one_written o w x e f) lacks) has
  where
    differ : (b : Bool) → b ≡ false → b ≡ true → ⊥
    differ b e f = cc

same_decl : OneRequirement → (base : List ℕ) (o : Option Written) (w x : Written) (r s : Option Alternatives) → o ≡ Some w → o ≡ Some x → IsRequirement w.requirement r → IsRequirement x.requirement s → decl_of base w.app r w.options ≡ decl_of base x.app s x.options
same_decl one base o w x r s e f p q =
    ap (λ (v : Written). decl_of base v.app r v.options) (one_written o w x e f)
    ∙ ap (λ (a : Option Alternatives). decl_of base x.app a x.options) (same_requirement one x.requirement r s (subst (λ (v : Written). IsRequirement v.requirement r) (one_written o w x e f) p) q)

one_decl : OneRequirement → {base : List ℕ} {t : Term} {a b : Result Decl OptionCause} → IsDecl base t a → IsDecl base t b → a ≡ b
one_decl one (shape e) (shape f) = refl
one_decl one {t = t} (shape e) (requirement x f bad) = absurd (nothing_written (written_of t) x e f)
one_decl one {t = t} (shape e) (option x s f q fault) = absurd (nothing_written (written_of t) x e f)
one_decl one {t = t} (shape e) (source x s f q free lacks) = absurd (nothing_written (written_of t) x e f)
one_decl one {t = t} (shape e) (good x s f q free has) = absurd (nothing_written (written_of t) x e f)
one_decl one {t = t} (requirement w e bad) (shape f) = absurd (nothing_written (written_of t) w f e)
one_decl one (requirement w e bad) (requirement x f worse) = refl
one_decl one {t = t} (requirement w e bad) (option x s f q fault) = absurd (clash_bad (written_of t) w x s e f bad q)
one_decl one {t = t} (requirement w e bad) (source x s f q free lacks) = absurd (clash_bad (written_of t) w x s e f bad q)
one_decl one {t = t} (requirement w e bad) (good x s f q free has) = absurd (clash_bad (written_of t) w x s e f bad q)
one_decl one {t = t} (option w r e p fault) (shape f) = absurd (nothing_written (written_of t) w f e)
one_decl one {t = t} (option w r e p fault) (requirement x f bad) = absurd (clash_bad (written_of t) x w r f e bad p)
one_decl one {base = base} {t = t} (option w r {cause = c} e p fault) (option x s {cause = d} f q other) =
    ap (λ (cause : OptionCause). Err cause) (same_fault (first_fault base [] x.options) c d (fault_at base (written_of t) w x (Some c) e f fault) other)
one_decl one {base = base} {t = t} (option w r {cause = c} e p fault) (source x s f q free lacks) =
    absurd (two_faults (first_fault base [] x.options) c free (fault_at base (written_of t) w x (Some c) e f fault))
one_decl one {base = base} {t = t} (option w r {cause = c} e p fault) (good x s f q free has) =
    absurd (two_faults (first_fault base [] x.options) c free (fault_at base (written_of t) w x (Some c) e f fault))
one_decl one {t = t} (source w r e p free lacks) (shape f) = absurd (nothing_written (written_of t) w f e)
one_decl one {t = t} (source w r e p free lacks) (requirement x f bad) = absurd (clash_bad (written_of t) x w r f e bad p)
one_decl one {base = base} {t = t} (source w r e p free lacks) (option x s {cause = d} f q fault) =
    absurd (two_faults (first_fault base [] x.options) d (fault_at base (written_of t) w x None e f free) fault)
one_decl one (source w r e p free lacks) (source x s f q empty none) = refl
one_decl one {t = t} (source w r e p free lacks) (good x s f q empty has) = absurd (clash_source (written_of t) w x e f lacks has)
one_decl one {t = t} (good w r e p free has) (shape f) = absurd (nothing_written (written_of t) w f e)
one_decl one {t = t} (good w r e p free has) (requirement x f bad) = absurd (clash_bad (written_of t) x w r f e bad p)
one_decl one {base = base} {t = t} (good w r e p free has) (option x s {cause = d} f q fault) =
    absurd (two_faults (first_fault base [] x.options) d (fault_at base (written_of t) w x None e f free) fault)
one_decl one {t = t} (good w r e p free has) (source x s f q empty lacks) = absurd (clash_source (written_of t) x w f e lacks has)
one_decl one {base = base} {t = t} (good w r e p free has) (good x s f q empty also) =
    ap (λ (d : Decl). Ok d) (same_decl one base (written_of t) w x r s e f p q)

same_cause : (c d : OptionCause) (a b : Result Decl OptionCause) → a ≡ Err c → b ≡ Err d → a ≡ b → c ≡ d
same_cause c d a b e f g = cc

refused_or_not : (c : OptionCause) (d : Decl) (a b : Result Decl OptionCause) → a ≡ Err c → b ≡ Ok d → a ≡ b → ⊥
refused_or_not c d a b e f g = cc

same_first : (c d : Decl) (a b : Result Decl OptionCause) → a ≡ Ok c → b ≡ Ok d → a ≡ b → c ≡ d
same_first c d a b e f g = cc

same_rest : (cs ds : List Decl) (a b : Result (List Decl) OptionError) → a ≡ Ok cs → b ≡ Ok ds → a ≡ b → cs ≡ ds
same_rest cs ds a b e f g = cc

rest_or_not : (e : OptionError) (ds : List Decl) (a b : Result (List Decl) OptionError) → a ≡ Err e → b ≡ Ok ds → a ≡ b → ⊥
rest_or_not e ds a b f g h = cc

-- the items of a list have one answer
one_from : OneRequirement → {place : ℕ} {base : List ℕ} {ts : List Term} {a b : Result (List Decl) OptionError} → AreDeclsFrom place base ts a → AreDeclsFrom place base ts b → a ≡ b
one_from one end end = refl
one_from one {place = place} (refused {cause = c} p) (refused {cause = d} q) =
    ap (λ (cause : OptionCause). Err (record { index = place; cause = cause })) (same_cause c d _ _ refl refl (one_decl one p q))
one_from one (refused {cause = c} p) (later {d = d} q m) = absurd (refused_or_not c d _ _ refl refl (one_decl one p q))
one_from one (refused {cause = c} p) (more {d = d} q m) = absurd (refused_or_not c d _ _ refl refl (one_decl one p q))
one_from one (later {d = d} p m) (refused {cause = c} q) = absurd (refused_or_not c d _ _ refl refl (one_decl one q p))
one_from one (later p m) (later q n) = one_from one m n
one_from one (later {e = e} p m) (more {ds = ds} q n) = absurd (rest_or_not e ds _ _ refl refl (one_from one m n))
one_from one (more {d = d} p m) (refused {cause = c} q) = absurd (refused_or_not c d _ _ refl refl (one_decl one q p))
one_from one (more {ds = ds} p m) (later {e = e} q n) = absurd (rest_or_not e ds _ _ refl refl (sym (one_from one m n)))
one_from one (more {d = c} {ds = cs} p m) (more {d = d} {ds = ds} q n) =
    ap (λ (x : Decl). Ok (x ∷ cs)) (same_first c d _ _ refl refl (one_decl one p q))
    ∙ ap (λ (xs : List Decl). Ok (d ∷ xs)) (same_rest cs ds _ _ refl refl (one_from one m n))

same_items : (o : Option (List Term)) (ts us : List Term) → o ≡ Some ts → o ≡ Some us → ts ≡ us
same_items o ts us e f = cc

no_items : (o : Option (List Term)) (ts : List Term) → o ≡ None → o ≡ Some ts → ⊥
no_items o ts e f = cc

-- a term has one answer
pub one_of : OneRequirement → {base : List ℕ} {t : Term} {a b : Result (List Decl) OptionError} → AreDecls base t a → AreDecls base t b → a ≡ b
one_of one (no_list e) (no_list f) = refl
one_of one {t = t} (no_list e) (items us f q) = absurd (no_items (list_of t) us e f)
one_of one {t = t} (items ts e p) (no_list f) = absurd (no_items (list_of t) ts f e)
one_of one {base = base} {t = t} {b = b} (items ts e p) (items us f q) =
    one_from one p (subst (λ (l : List Term). AreDeclsFrom 0 base l b) (same_items (list_of t) us ts f e) q)
