-- One more element of a walk over wants or demands.
use Rattle.std.proofs.Common.{◌≡◌, ℕ, zero, suc, ◌+◌, ◌<◌, Bool, true, false, not, cond, List, [], ◌∷◌, ◌++◌, map, filter, filter_map, drop, length, get_or, Option, Some, None, bytes_eq, refl, sym, ap, ◌∙◌, arith, append_assoc, add-one, drop-cons}
use Rattle.std.specs.List.{cons_option}
use Rattle.indexmap.specs.IndexSet.{insert_all, insert_key}
use Rattle.hex_registry.specs.declared.offer.Demand.{Demand}
use Rattle.hex_registry.specs.declared.wants.Want.{Want}
use Rattle.hex_registry.specs.Picks.{Picked}
use Rattle.hex_registry.specs.Reach.{index_of, links_of, starts_of}
use Rattle.hex_registry.specs.Shelves.{is_among, without_apps}

pub next_is : {A : Type 0} (xs : List A) (i : ℕ) (x : A) → i < length xs → get_or xs i x ≡ x → drop i xs ≡ x ∷ drop (i + 1) xs
next_is xs i x below at = rw add-one (drop-cons xs i x below ∙ ap (λ z. z ∷ drop (suc i) xs) at)

-- demands on pinned apps are passed over
pub next_aside : (pinned : List (List ℕ)) (demands : List Demand) (i : ℕ) (demand : Demand) → i < length demands → get_or demands i demand ≡ demand
    → is_among demand.app pinned ≡ true → without_apps pinned (drop i demands) ≡ without_apps pinned (drop (i + 1) demands)
next_aside pinned demands i demand below at aside =
    ap (without_apps pinned) (next_is demands i demand below at)
    ∙ ap (λ (b : Bool). cond (not b) (demand ∷ without_apps pinned (drop (i + 1) demands)) (without_apps pinned (drop (i + 1) demands))) aside

pub next_kept : (pinned : List (List ℕ)) (demands : List Demand) (i : ℕ) (demand : Demand) → i < length demands → get_or demands i demand ≡ demand
    → is_among demand.app pinned ≡ false → without_apps pinned (drop i demands) ≡ demand ∷ without_apps pinned (drop (i + 1) demands)
next_kept pinned demands i demand below at kept =
    ap (without_apps pinned) (next_is demands i demand below at)
    ∙ ap (λ (b : Bool). cond (not b) (demand ∷ without_apps pinned (drop (i + 1) demands)) (without_apps pinned (drop (i + 1) demands))) kept

-- names that are inserted
pub insert_want : (keys : List (List ℕ)) (wants : List Want) (i : ℕ) (want : Want) → i < length wants → get_or wants i want ≡ want
    → insert_all bytes_eq (insert_key bytes_eq keys want.«package») (map (λ (w : Want). w.«package») (drop (i + 1) wants)) ≡ insert_all bytes_eq keys
    (map (λ (w : Want). w.«package») (drop i wants))
insert_want keys wants i want below at =
    sym (ap (λ (ws : List Want). insert_all bytes_eq keys (map (λ (w : Want). w.«package») ws)) (next_is wants i want below at))

pub insert_aside : (pinned keys : List (List ℕ)) (demands : List Demand) (i : ℕ) (demand : Demand) → i < length demands → get_or demands i demand ≡ demand
    → is_among demand.app pinned ≡ true
    → insert_all bytes_eq keys (map (λ (d : Demand). d.«package») (without_apps pinned (drop (i + 1) demands))) ≡ insert_all bytes_eq keys
    (map (λ (d : Demand). d.«package») (without_apps pinned (drop i demands)))
insert_aside pinned keys demands i demand below at aside =
    sym (ap (λ (ds : List Demand). insert_all bytes_eq keys (map (λ (d : Demand). d.«package») ds)) (next_aside pinned demands i demand below at aside))

pub insert_demand : (pinned keys : List (List ℕ)) (demands : List Demand) (i : ℕ) (demand : Demand) → i < length demands → get_or demands i demand ≡ demand
    → is_among demand.app pinned ≡ false
    → insert_all bytes_eq (insert_key bytes_eq keys demand.«package»)
    (map (λ (d : Demand). d.«package») (without_apps pinned (drop (i + 1) demands))) ≡ insert_all bytes_eq keys
    (map (λ (d : Demand). d.«package») (without_apps pinned (drop i demands)))
insert_demand pinned keys demands i demand below at kept =
    sym (ap (λ (ds : List Demand). insert_all bytes_eq keys (map (λ (d : Demand). d.«package») ds)) (next_kept pinned demands i demand below at kept))

-- places that demands lead to
links_by : (pick : List Picked) (demand : Demand) (rest : List Demand) (b : Bool) → demand.optional ≡ b
    → links_of pick (demand ∷ rest) ≡ filter_map (λ (d : Demand). index_of pick d.«package»)
    (cond (not b) (demand ∷ filter (λ (d : Demand). not d.optional) rest) (filter (λ (d : Demand). not d.optional) rest))
links_by pick demand rest b e =
    ap (λ (c : Bool). filter_map (λ (d : Demand). index_of pick d.«package») (cond (not c) (demand ∷ filter (λ (d : Demand). not d.optional) rest)
    (filter (λ (d : Demand). not d.optional) rest))) e

pub links_aside : (pinned : List (List ℕ)) (pick : List Picked) (places : List ℕ) (demands : List Demand) (i : ℕ) (demand : Demand) → i < length demands
    → get_or demands i demand ≡ demand → is_among demand.app pinned ≡ true
    → places ++ links_of pick (without_apps pinned (drop (i + 1) demands)) ≡ places ++ links_of pick (without_apps pinned (drop i demands))
links_aside pinned pick places demands i demand below at aside =
    sym (ap (λ (ds : List Demand). places ++ links_of pick ds) (next_aside pinned demands i demand below at aside))

pub links_optional : (pinned : List (List ℕ)) (pick : List Picked) (places : List ℕ) (demands : List Demand) (i : ℕ) (demand : Demand) → i < length demands
    → get_or demands i demand ≡ demand → is_among demand.app pinned ≡ false → demand.optional ≡ true
    → places ++ links_of pick (without_apps pinned (drop (i + 1) demands)) ≡ places ++ links_of pick (without_apps pinned (drop i demands))
links_optional pinned pick places demands i demand below at kept optional =
    sym (ap (λ (ds : List Demand). places ++ links_of pick ds) (next_kept pinned demands i demand below at kept)
    ∙ ap (λ (ns : List ℕ). places ++ ns) (links_by pick demand (without_apps pinned (drop (i + 1) demands)) true optional))

links_required : (pinned : List (List ℕ)) (pick : List Picked) (demands : List Demand) (i : ℕ) (demand : Demand) (found : Option ℕ) → i < length demands
    → get_or demands i demand ≡ demand → is_among demand.app pinned ≡ false → demand.optional ≡ false → index_of pick demand.«package» ≡ found
    → links_of pick (without_apps pinned (drop i demands)) ≡ cons_option found (links_of pick (without_apps pinned (drop (i + 1) demands)))
links_required pinned pick demands i demand found below at kept required is =
    ap (links_of pick) (next_kept pinned demands i demand below at kept)
    ∙ links_by pick demand (without_apps pinned (drop (i + 1) demands)) false required
    ∙ ap (λ (o : Option ℕ). cons_option o (links_of pick (without_apps pinned (drop (i + 1) demands)))) is

pub links_none : (pinned : List (List ℕ)) (pick : List Picked) (places : List ℕ) (demands : List Demand) (i : ℕ) (demand : Demand) → i < length demands
    → get_or demands i demand ≡ demand → is_among demand.app pinned ≡ false → demand.optional ≡ false → index_of pick demand.«package» ≡ None
    → places ++ links_of pick (without_apps pinned (drop (i + 1) demands)) ≡ places ++ links_of pick (without_apps pinned (drop i demands))
links_none pinned pick places demands i demand below at kept required is =
    sym (ap (λ (ns : List ℕ). places ++ ns) (links_required pinned pick demands i demand None below at kept required is))

pub links_some : (pinned : List (List ℕ)) (pick : List Picked) (places : List ℕ) (demands : List Demand) (i : ℕ) (demand : Demand) (place : ℕ)
    → i < length demands → get_or demands i demand ≡ demand → is_among demand.app pinned ≡ false → demand.optional ≡ false
    → index_of pick demand.«package» ≡ Some place
    → (places ++ place ∷ []) ++ links_of pick (without_apps pinned (drop (i + 1) demands)) ≡ places ++ links_of pick (without_apps pinned (drop i demands))
links_some pinned pick places demands i demand place below at kept required is =
    append_assoc places (place ∷ []) (links_of pick (without_apps pinned (drop (i + 1) demands)))
    ∙ sym (ap (λ (ns : List ℕ). places ++ ns) (links_required pinned pick demands i demand (Some place) below at kept required is))

-- places that wants lead to
starts_by : (pick : List Picked) (wants : List Want) (i : ℕ) (want : Want) (b : Bool) → i < length wants → get_or wants i want ≡ want → want.optional ≡ b
    → starts_of pick (drop i wants) ≡ filter_map (λ (w : Want). index_of pick w.«package»)
    (cond (not b) (want ∷ filter (λ (w : Want). not w.optional) (drop (i + 1) wants)) (filter (λ (w : Want). not w.optional) (drop (i + 1) wants)))
starts_by pick wants i want b below at e =
    ap (starts_of pick) (next_is wants i want below at)
    ∙ ap (λ (c : Bool). filter_map (λ (w : Want). index_of pick w.«package») (cond (not c) (want ∷ filter (λ (w : Want). not w.optional) (drop (i + 1) wants))
    (filter (λ (w : Want). not w.optional) (drop (i + 1) wants)))) e

pub starts_optional : (pick : List Picked) (starts : List ℕ) (wants : List Want) (i : ℕ) (want : Want) → i < length wants → get_or wants i want ≡ want
    → want.optional ≡ true → starts ++ starts_of pick (drop (i + 1) wants) ≡ starts ++ starts_of pick (drop i wants)
starts_optional pick starts wants i want below at optional = sym (ap (λ (ns : List ℕ). starts ++ ns) (starts_by pick wants i want true below at optional))

starts_required : (pick : List Picked) (wants : List Want) (i : ℕ) (want : Want) (found : Option ℕ) → i < length wants → get_or wants i want ≡ want
    → want.optional ≡ false → index_of pick want.«package» ≡ found → starts_of pick (drop i wants) ≡ cons_option found (starts_of pick (drop (i + 1) wants))
starts_required pick wants i want found below at required is =
    starts_by pick wants i want false below at required
    ∙ ap (λ (o : Option ℕ). cons_option o (starts_of pick (drop (i + 1) wants))) is

pub starts_none : (pick : List Picked) (starts : List ℕ) (wants : List Want) (i : ℕ) (want : Want) → i < length wants → get_or wants i want ≡ want
    → want.optional ≡ false → index_of pick want.«package» ≡ None → starts ++ starts_of pick (drop (i + 1) wants) ≡ starts ++ starts_of pick (drop i wants)
starts_none pick starts wants i want below at required is =
    sym (ap (λ (ns : List ℕ). starts ++ ns) (starts_required pick wants i want None below at required is))

pub starts_some : (pick : List Picked) (starts : List ℕ) (wants : List Want) (i : ℕ) (want : Want) (place : ℕ) → i < length wants → get_or wants i want ≡ want
    → want.optional ≡ false → index_of pick want.«package» ≡ Some place
    → (starts ++ place ∷ []) ++ starts_of pick (drop (i + 1) wants) ≡ starts ++ starts_of pick (drop i wants)
starts_some pick starts wants i want place below at required is =
    append_assoc starts (place ∷ []) (starts_of pick (drop (i + 1) wants))
    ∙ sym (ap (λ (ns : List ℕ). starts ++ ns) (starts_required pick wants i want (Some place) below at required is))
