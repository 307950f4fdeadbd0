-- The same text says one lock.
use Rattle.std.proofs.Common.{◌≡◌, ℕ, List, ◌∷◌, Option, Some, None, Result, Ok, Err, refl, sym, ◌∙◌, ap, subst}
use Rattle.std.specs.List.Sorted.{IsPermutation}
use Rattle.std.proofs.lemmas.Bool.{true≢false}
use Rattle.std.proofs.lemmas.List.Sorted.{IsPermutation-sym, IsPermutation-trans}
use Rattle.std.proofs.lemmas.Option.{same_Some, none-some}
use Rattle.elixir_terms.proofs.OneReading.{OneReading, not_both, same_refusal}
use Rattle.elixir_terms.specs.declared.error.TermError.{TermError}
use Rattle.term_values.specs.declared.term.Term.{Term}
use Rattle.term_values.specs.Views.{Pair, map_of}
use Rattle.mx_base.proofs.KeyedOrder.{one_sorting}
use Rattle.mix_lock.specs.declared.entry.Entry.{Entry}
use Rattle.mix_lock.specs.declared.entry.Entry.TheVariants.{Hex}
use Rattle.mix_lock.specs.declared.entry.HexEntry.{HexEntry}
use Rattle.mix_lock.specs.declared.error.LockError.{LockError}
use Rattle.mix_lock.specs.declared.error.LockError.TheVariants as lock
use Rattle.mix_lock.specs.Lock.{AppEntry}
use Rattle.mix_lock.specs.Says.{AreRead, IsEntry, IsPair, AreEntries, TermSays, SaysLock}
use Rattle.mix_lock.specs.Says.IsEntry.{other, hex, shape, requirement}
use Rattle.mix_lock.specs.Says.IsPair.{good as good_pair, nameless, entryless}
use Rattle.mix_lock.specs.Says.AreEntries.{end, refused, later, more}
use Rattle.mix_lock.specs.Says.TermSays.{no_map, refused as refused_term, good}
use Rattle.mix_lock.specs.Says.SaysLock.{unread, read}
use Rattle.mix_lock.specs.Terms.{hex_of}

some_one : {X : Type 0} (o : Option X) (a b : X) → o ≡ Some a → o ≡ Some b → a ≡ b
some_one o a b e f = same_Some a b (sym e ∙ f)

no_some : {X : Type 0} (o : Option X) (a : X) → o ≡ None → o ≡ Some a → ⊥
no_some o a e f = none-some a (sym e ∙ f)

err_one : {X E : Type 0} (d e : E) → ◌≡◌ {A = Result X E} (Err d) (Err e) → d ≡ e
err_one d e same = cc

pub ok_one : {X E : Type 0} (x y : X) → ◌≡◌ {A = Result X E} (Ok x) (Ok y) → x ≡ y
ok_one x y same = cc

err_not_ok : {X E : Type 0} (e : E) (x : X) → ◌≡◌ {A = Result X E} (Err e) (Ok x) → ⊥
err_not_ok e x same = cc

same_deps : (value : Term) (d e : HexEntry) → hex_of value ≡ Some d → hex_of value ≡ Some e → AreRead d.deps → AreRead e.deps
same_deps value d e one also reads = subst (λ (x : HexEntry). AreRead x.deps) (some_one (hex_of value) d e one also) reads

entry_one : {value : Term} {a b : Option Entry} → IsEntry value a → IsEntry value b → a ≡ b
entry_one (other kept) (other also) = refl
entry_one (other kept) (hex e is says reads) = absurd (true≢false (sym is ∙ kept))
entry_one (other kept) (shape is none) = absurd (true≢false (sym is ∙ kept))
entry_one (other kept) (requirement e is says bad) = absurd (true≢false (sym is ∙ kept))
entry_one (hex e is says reads) (other kept) = absurd (true≢false (sym is ∙ kept))
entry_one {value = value} (hex d is says reads) (hex e also tells more_reads) = ap (λ (x : HexEntry). Some (Hex x)) (some_one (hex_of value) d e says tells)
entry_one {value = value} (hex d is says reads) (shape also none) = absurd (no_some (hex_of value) d none says)
entry_one {value = value} (hex d is says reads) (requirement e also tells bad) = absurd (bad (same_deps value d e says tells reads))
entry_one (shape is none) (other kept) = absurd (true≢false (sym is ∙ kept))
entry_one {value = value} (shape is none) (hex e also tells reads) = absurd (no_some (hex_of value) e none tells)
entry_one (shape is none) (shape also nothing) = refl
entry_one (shape is none) (requirement e also tells bad) = refl
entry_one (requirement d is says bad) (other kept) = absurd (true≢false (sym is ∙ kept))
entry_one {value = value} (requirement d is says bad) (hex e also tells reads) = absurd (bad (same_deps value e d tells says reads))
entry_one (requirement d is says bad) (shape also nothing) = refl
entry_one (requirement d is says bad) (requirement e also tells worse) = refl

pair_one : {key value : Term} {a b : Result AppEntry LockError} → IsPair key value a → IsPair key value b → a ≡ b
pair_one (good_pair {app = m} {entry = x} named is) (good_pair {app = n} {entry = y} also tells) =
    let apps = some_one _ m n named also in
    let entries = some_one _ x y refl (entry_one is tells) in
    ap (λ (app : List ℕ). Ok (app, x)) apps ∙ ap (λ (entry : Entry). Ok (n, entry)) entries
pair_one (good_pair {app = m} named is) (nameless none) = absurd (no_some _ m none named)
pair_one (good_pair {entry = x} named is) (entryless also none) = absurd (none-some x (entry_one none is))
pair_one (nameless none) (good_pair {app = n} named is) = absurd (no_some _ n none named)
pair_one (nameless none) (nameless also) = refl
pair_one (nameless none) (entryless {app = n} named also) = refl
pair_one (entryless named none) (good_pair {entry = y} also is) = absurd (none-some y (entry_one none is))
pair_one (entryless named none) (nameless also) = refl
pair_one (entryless named none) (entryless also nothing) = refl

entries_one : {pairs : List Pair} {a b : Result (List AppEntry) LockError} → AreEntries pairs a → AreEntries pairs b → a ≡ b
entries_one end end = refl
entries_one (refused {e = d} is) (refused {e = e} also) = ap (λ (x : LockError). Err x) (err_one d e (pair_one is also))
entries_one (refused {e = d} is) (later {entry = y} also rest) = absurd (err_not_ok d y (pair_one is also))
entries_one (refused {e = d} is) (more {entry = y} also rest) = absurd (err_not_ok d y (pair_one is also))
entries_one (later {entry = x} is rest) (refused {e = e} also) = absurd (err_not_ok e x (pair_one also is))
entries_one (later {e = d} is rest) (later {e = e} also others) = entries_one rest others
entries_one (later {e = d} is rest) (more {entries = ys} also others) = absurd (err_not_ok d ys (entries_one rest others))
entries_one (more {entry = x} is rest) (refused {e = e} also) = absurd (err_not_ok e x (pair_one also is))
entries_one (more {entries = xs} is rest) (later {e = e} also others) = absurd (err_not_ok e xs (sym (entries_one rest others)))
entries_one (more {entry = x} {entries = xs} is rest) (more {entry = y} {entries = ys} also others) =
    ap (λ (entry : AppEntry). Ok (entry ∷ xs)) (ok_one x y (pair_one is also))
    ∙ ap (λ (entries : List AppEntry). Ok (y ∷ entries)) (ok_one xs ys (entries_one rest others))

same_entries : (o : Option (List Pair)) (ps qs : List Pair) (a b : Result (List AppEntry) LockError) → o ≡ Some ps → o ≡ Some qs
    → AreEntries ps a → AreEntries qs b → a ≡ b
same_entries o ps qs a b e f are also = entries_one (subst (λ (x : List Pair). AreEntries x a) (some_one o ps qs e f) are) also

term_one : {t : Term} {a b : Result (List AppEntry) LockError} → TermSays t a → TermSays t b → a ≡ b
term_one (no_map none) (no_map nothing) = refl
term_one (no_map none) (refused_term {pairs = qs} is are) = absurd (no_some _ qs none is)
term_one (no_map none) (good {pairs = qs} is are same order) = absurd (no_some _ qs none is)
term_one (refused_term {pairs = ps} is are) (no_map none) = absurd (no_some _ ps none is)
term_one {t = t} (refused_term {pairs = ps} {e = d} is are) (refused_term {pairs = qs} {e = e} also tells) =
    same_entries (map_of t) ps qs (Err d) (Err e) is also are tells
term_one {t = t} (refused_term {pairs = ps} {e = d} is are) (good {pairs = qs} {entries = ys} also tells same order) =
    absurd (err_not_ok d ys (same_entries (map_of t) ps qs (Err d) (Ok ys) is also are tells))
term_one (good {pairs = ps} is are same order) (no_map none) = absurd (no_some _ ps none is)
term_one {t = t} (good {pairs = ps} {entries = xs} is are same order) (refused_term {pairs = qs} {e = e} also tells) =
    absurd (err_not_ok e xs (same_entries (map_of t) qs ps (Err e) (Ok xs) also is tells are))
term_one {t = t} (good {pairs = ps} {entries = xs} {sorted = us} is are same order) (good {pairs = qs} {entries = ys} {sorted = vs} also tells moved row) =
    let entries : xs ≡ ys = ok_one xs ys (same_entries (map_of t) ps qs (Ok xs) (Ok ys) is also are tells) in
    let was : IsPermutation ys us = subst (λ (es : List AppEntry). IsPermutation es us) entries same in
    let kept = IsPermutation-trans us ys vs (IsPermutation-sym ys us was) moved in
    ap (λ (es : List AppEntry). Ok es) (one_sorting (λ (entry : AppEntry). entry.0) us vs kept order row)

-- a text says one lock, or is refused in one way
pub lock_one : OneReading → (text : List ℕ) (a b : Result (List AppEntry) LockError) → SaysLock text a → SaysLock text b → a ≡ b
lock_one reading text _ _ (unread {error = x} why) (unread {error = y} also) =
    ap (λ (z : TermError). Err (lock.Term z)) (same_refusal reading text x y why also)
lock_one reading text _ _ (unread {error = x} why) (read u spelled says) = absurd (not_both reading text x u why spelled)
lock_one reading text _ _ (read t spelled says) (unread {error = y} why) = absurd (not_both reading text y t why spelled)
lock_one reading text a b (read t spelled says) (read u again tells) =
    let Says : Term → Type 0 = λ x. TermSays x a in
    term_one (subst Says (reading.terms text t u spelled.0 again.0) says) tells
