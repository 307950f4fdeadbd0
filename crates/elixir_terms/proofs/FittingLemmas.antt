-- The levels that are left for a term in the open brackets.
use Rattle.std.proofs.Common.{◌≡◌, ℕ, ◌+◌, List, [], ◌∷◌, ◌++◌, Some, sym, subst, arith, append_assoc}
use Rattle.elixir_terms.specs.declared.frame.Frame.{Frame}
use Rattle.elixir_terms.specs.declared.frame.Hole.{Hole}
use Rattle.elixir_terms.specs.declared.frame.Slot.{Slot}
use Rattle.elixir_terms.specs.declared.frame.Slot.TheVariants as slot
use Rattle.term_values.specs.declared.term.Term.{Term}
use Rattle.term_values.specs.declared.term.Term.TheVariants as term
use Rattle.term_tokens.specs.declared.token.Token.{Token}
use Rattle.term_print.specs.Grammar.{enclosed}
use Rattle.term_values.specs.Views.{Pair}
use Rattle.elixir_terms.specs.Bounded.{Rules, Bounded}
use Rattle.elixir_terms.specs.Levels.{levels}
use Rattle.elixir_terms.proofs.BelowLemmas.{element_below, keyword_below, entry_below}
use Rattle.elixir_terms.proofs.Meaning.{FilledIn, Filled}

-- levels are left for the term in the innermost hole, and it fits in them
pub record Fitting (r : Rules) (whole : ℕ) (holes : List Hole) (t : Term) : Type 0 where
  pub left : ℕ
  pub all : left + levels holes ≡ whole
  pub fits : Bounded r left t

pub fitting_in : {r : Rules} (whole : ℕ) (u : Term) (place : Slot) (frame : Frame) (holes : List Hole) (t : Term) (tokens : List Token) → ((t : Term) (tokens : List Token) → Filled u holes t tokens → Fitting r whole holes t) → FilledIn place frame (Filled u holes) t tokens → Fitting r whole (record { frame = frame; slot = place } ∷ holes) t
fitting_in whole u slot.Element frame holes t tokens outer k =
    let o = outer k.t k.rest k.outside in
    let encloses : enclosed frame.bracket (frame.items ++ t ∷ k.items) (frame.entries ++ k.entries) (frame.keywords ++ k.keywords) ≡ Some k.t = rw (append_assoc frame.items (t ∷ []) k.items) at k.encloses in
    let b = element_below frame.bracket frame.items t k.items (frame.entries ++ k.entries) (frame.keywords ++ k.keywords) k.t o.left encloses o.fits in
    let same = b.1 in
    let all = o.all in
    record { left = b.0; all = omega arith; fits = b.2 }
fitting_in whole u (slot.Keyword key) frame holes t tokens outer k =
    let o = outer k.t k.rest k.outside in
    let p : Pair = (term.Atom key, t) in
    let encloses : enclosed frame.bracket (frame.items ++ k.items) (frame.entries ++ k.entries) (frame.keywords ++ p ∷ k.keywords) ≡ Some k.t = rw (append_assoc frame.keywords (p ∷ []) k.keywords) at k.encloses in
    let b = keyword_below frame.bracket (frame.items ++ k.items) (frame.entries ++ k.entries) frame.keywords p k.keywords k.t o.left encloses o.fits in
    let same = b.1 in
    let all = o.all in
    record { left = b.0; all = omega arith; fits = b.2 }
fitting_in whole u slot.EntryKey frame holes t tokens outer a =
    let v = a.value in
    let k = v.outside in
    let o = outer k.t k.rest k.outside in
    let p : Pair = (t, v.t) in
    let encloses : enclosed frame.bracket (frame.items ++ k.items) (frame.entries ++ p ∷ k.entries) (frame.keywords ++ k.keywords) ≡ Some k.t = rw (append_assoc frame.entries (p ∷ []) k.entries) at k.encloses in
    let b = entry_below frame.bracket (frame.items ++ k.items) frame.entries p k.entries (frame.keywords ++ k.keywords) k.t o.left encloses o.fits in
    let same = b.1 in
    let all = o.all in
    record { left = b.0; all = omega arith; fits = b.2 }
fitting_in whole u (slot.EntryValue key) frame holes t tokens outer k =
    let o = outer k.t k.rest k.outside in
    let p : Pair = (key, t) in
    let encloses : enclosed frame.bracket (frame.items ++ k.items) (frame.entries ++ p ∷ k.entries) (frame.keywords ++ k.keywords) ≡ Some k.t = rw (append_assoc frame.entries (p ∷ []) k.entries) at k.encloses in
    let b = entry_below frame.bracket (frame.items ++ k.items) frame.entries p k.entries (frame.keywords ++ k.keywords) k.t o.left encloses o.fits in
    let same = b.1 in
    let all = o.all in
    record { left = b.0; all = omega arith; fits = b.3 }

-- where the whole term has so many levels, a term in the innermost hole fits in what is left there
pub fitting : {r : Rules} (whole : ℕ) (u : Term) → Bounded r whole u → (holes : List Hole) (t : Term) (tokens : List Token) → Filled u holes t tokens → Fitting r whole holes t
fitting {r = r} whole u h [] t tokens f = record { left = whole; all = omega arith; fits = subst (λ x. Bounded r whole x) (sym f.1) h }
fitting whole u h (hole ∷ holes) t tokens f = fitting_in whole u hole.slot hole.frame holes t tokens (fitting whole u h holes) f
