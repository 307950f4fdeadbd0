-- Giving folders back, the last one first.
use Rattle.std.proofs.Common.{◌≡◌, ◌≢◌, ◌⊎◌, inl, inr, ℕ, zero, suc, ◌+◌, ◌<◌, ◌≤◌, Bool, true, false, List, [], ◌∷◌, ◌++◌, length, map, nat_lt, Option, Some, None, slice_get, refl, sym, ◌∙◌, ap, subst, arith}
use Rattle.std.proofs.lemmas.Bool.{cases_eq, lt-ltb}
use Rattle.mx_base.specs.Causes.{Rose}
use Rattle.tree_store.specs.declared.key.BuildKey.{BuildKey}
use Rattle.tree_store.specs.FolderKnown.{FolderKnown}
use Rattle.tree_store.specs.Known.{Known, TakesBack}
use Rattle.tree_store.specs.Slot.{Slot}
use Rattle.partition_core.proofs.SeqPlaces.{get_end}
use Rattle.partition_crew.specs.Build.{SomeFailed}
use Rattle.mix_compile.specs.Lending.{AreOut, brought}
use Rattle.mix_compile.proofs.LendLemmas.{brought_fewer, get_before, get_more, out_fewer, out_last}

failed_more : (folders : List FolderKnown) (folder : FolderKnown) → SomeFailed (folders ++ folder ∷ []) → SomeFailed folders ⊎ (folder.faults ≢ 0)
failed_more folders folder (place, one, is, failed) = at (get_more folders folder place one is)
  where
    at : (slice_get folders place ≡ Some one) ⊎ ((place ≡ length folders) × (folder ≡ one)) → SomeFailed folders ⊎ (folder.faults ≢ 0)
    at (inl was) = inl (place, one, was, failed)
    at (inr end) = inr (λ zero_faults. failed (ap (λ (f : FolderKnown). f.faults) (sym end.1) ∙ zero_faults))

failed_before : (folders : List FolderKnown) (folder : FolderKnown) → SomeFailed folders → SomeFailed (folders ++ folder ∷ [])
failed_before folders folder (place, one, is, failed) = (place, one, get_before folders folder place one is, failed)

failed_last : (folders : List FolderKnown) (folder : FolderKnown) → folder.faults ≢ 0 → SomeFailed (folders ++ folder ∷ [])
failed_last folders folder failed = (length folders, folder, get_end folders folder [], failed)

some_faults : (n : ℕ) → n ≢ 0 → nat_lt 0 n ≡ true
some_faults zero some = absurd (some refl)
some_faults (suc n) some = lt-ltb 0 (suc n) (omega arith)

no_faults : (n : ℕ) → n ≡ 0 → nat_lt 0 n ≡ false
no_faults n none = ap (nat_lt 0) none

-- so far these folders came back of all, and these are left
pub record Giving (all left : List FolderKnown) (first now : Known) : Type 0 where
  pub out : AreOut now.slot left
  pub whole : (q : BuildKey) → brought left now.slot q ≡ brought all first.slot q
  pub rest : now ≡ record first { slot = now.slot; returned = now.returned }
  pub later : first.returned ≤ now.returned
  pub rose : SomeFailed all → SomeFailed left ⊎ Rose first.returned now.returned
  pub kept : (SomeFailed all → ⊥) → ((SomeFailed left → ⊥) × (now.returned ≡ first.returned))

pub giving_first : (all : List FolderKnown) (first : Known) → AreOut first.slot all → Giving all all first first
giving_first all first out = record {
  out = out;
  whole = λ q. refl;
  rest = refl;
  later = omega arith;
  rose = λ some. inl some;
  kept = λ none. (none, refl);
}

pub giving_out : (all whole left : List FolderKnown) (folder : FolderKnown) (first now : Known) → whole ≡ left ++ folder ∷ [] → Giving all whole first now
    → AreOut now.slot (left ++ folder ∷ [])
giving_out all whole left folder first now is giving = subst (AreOut now.slot) is giving.out

-- one more comes back
pub giving_more : (all whole left : List FolderKnown) (folder : FolderKnown) (first mid now : Known) → whole ≡ left ++ folder ∷ [] → Giving all whole first mid
    → TakesBack folder mid now → Giving all left first now
giving_more all whole left folder first mid now is giving back = record {
  out = out_fewer left folder mid.slot now.slot (giving_out all whole left folder first mid is giving) back.back;
  whole = λ q. brought_fewer left folder mid.slot now.slot back.back q ∙ ap (λ (fs : List FolderKnown). brought fs mid.slot q) (sym is) ∙ giving.whole q;
  rest = back.rest ∙ ap (λ (k : Known). record k { slot = now.slot; returned = now.returned }) giving.rest;
  later = omega (arith, giving.later, back.cause.later);
  rose = λ some. elim (giving.rose some) [
    | inl failed ↦ elim (failed_more left folder (subst SomeFailed is failed)) [
      | inl others ↦ inl others
      | inr own ↦ inr (raised first.returned mid.returned now.returned giving.later (back.cause.rose (some_faults folder.faults own)))
    ]
    | inr rose ↦ inr (stays first.returned mid.returned now.returned rose back.cause.later)
  ];
  kept = λ none.
      let calm = giving.kept none in
      let own : folder.faults ≡ 0 = elim (cases_eq folder.faults 0) [
        | inl zero_faults ↦ zero_faults
        | inr some ↦ absurd
            (calm.0 (subst SomeFailed (sym is) (failed_last left folder some)))
      ] in
      (λ failed. calm.0 (subst SomeFailed (sym is) (failed_before left folder failed)), back.cause.kept (no_faults folder.faults own) ∙ calm.1);
}
  where
    raised : (a b c : ℕ) → a ≤ b → Rose b c → Rose a c
    raised a b c least rose = omega (arith, least, rose)

    stays : (a b c : ℕ) → Rose a b → b ≤ c → Rose a c
    stays a b c rose most = omega (arith, rose, most)

none_failed : SomeFailed [] → ⊥
none_failed (place, one, is, failed) = cc

pub giving_rose : (all : List FolderKnown) (first now : Known) → Giving all [] first now → SomeFailed all → Rose first.returned now.returned
giving_rose all first now giving some = elim (giving.rose some) [ inl failed ↦ absurd (none_failed failed) | inr rose ↦ rose ]

-- none is left
pub giving_last : (all left : List FolderKnown) (first now : Known) → left ≡ [] → Giving all left first now → Giving all [] first now
giving_last all left first now is giving = subst (λ (fs : List FolderKnown). Giving all fs first now) is giving

pub no_items : {F K : Type 0} (known : F → K) (items : List F) → length items ≡ 0 → map known items ≡ []
no_items known [] e = refl
no_items known (x ∷ xs) e = absurd (omega (arith, e))
