-- Files kept as entries of a map, files in order, and parts of files.
use Rattle.std.proofs.Common.{◌≡◌, ℕ, List, [], ◌∷◌, ◌++◌, All, slice_index_or, map, filter, find, Option, Some, None, Bool, true, false, not, cond, option_map, refl, sym, ◌∙◌, ap, subst, append_assoc}
use Rattle.std.proofs.lemmas.List.{append-nil}
use Rattle.std.proofs.lemmas.List.Elements.{filter_passes}
use Rattle.std.specs.List.{AllByRecursion}
use Rattle.std.specs.List.Sorted.{IsStrictlySortedBy}
use Rattle.std.specs.declared.cmp.Ordering.{Ordering}
use Rattle.std.specs.declared.cmp.Ordering.TheVariants.{Less, Equal, Greater}
use Rattle.std.specs.Ordering.{match_ordering, is_eq}
use Rattle.std.specs.Map.{lookup, keys_of}
use Rattle.std.specs.BTreeMap.{insert_entry, is_at}
use Rattle.std.specs.Map.{remove_entry}
use Rattle.mx_base.specs.declared.file.File.{File}
use Rattle.mx_base.specs.Order.{text_cmp, IsBefore, ArePathsInOrder, AreInOrder, paths_of, bytes_at}
use Rattle.mx_base.specs.Path.{is_below}
use Rattle.tree_store.specs.Contents.{file_of}
use Rattle.mx_base.specs.Layout.{is_in_build}
use Rattle.tree_store.specs.Files.{outside_build, paths_below, put_file, put_all, without_file}
use Rattle.tree_store.proofs.OrderLemmas.{less_back, same_name, in_order_filter}

abbrev Entry : Type 0
Entry = List ℕ × List ℕ

pub map_insert_entry : (es : List Entry) (p b : List ℕ) → map file_of (insert_entry text_cmp es p b) ≡ put_file (record { path = p; bytes = b }) (map file_of es)
map_insert_entry [] p b = refl
map_insert_entry (e ∷ es) p b =
    elim (text_cmp p e.0) as (λ r. map file_of (match_ordering r ((p, b) ∷ e ∷ es) ((e.0, b) ∷ es) (e ∷ insert_entry text_cmp es p b)) ≡ match_ordering r (file_of (p, b) ∷ file_of e ∷ map file_of es) (file_of (e.0, b) ∷ map file_of es) (file_of e ∷ put_file (file_of (p, b)) (map file_of es))) [
      | Less ↦ refl
      | Equal ↦ refl
      | Greater ↦ ap (λ (fs : List File). file_of e ∷ fs) (map_insert_entry es p b)
    ]

found : (b : Bool) (e : Entry) (o : Option (List ℕ)) (r : Option File) → o ≡ option_map (λ (f : File). f.bytes) r → cond b (Some e.1) o ≡ option_map (λ (f : File). f.bytes) (cond b (Some (file_of e)) r)
found true e o r h = refl
found false e o r h = h

-- what the map has at a path
pub lookup_is_bytes_at : (es : List Entry) (path : List ℕ) → lookup (is_at (text_cmp path)) es ≡ bytes_at path (map file_of es)
lookup_is_bytes_at [] path = refl
lookup_is_bytes_at (e ∷ es) path = found (is_at (text_cmp path) e.0) e _ _ (lookup_is_bytes_at es path)

-- a path that stands before all has no file to remove
none_removed : (path : List ℕ) (es : List Entry) → AllByRecursion (λ p. text_cmp path p ≡ Less) (keys_of es) → without_file path (map file_of es) ≡ map file_of es
none_removed path [] all = refl
none_removed path (e ∷ es) all =
    ap (λ (r : Ordering). cond (not (is_eq r)) (file_of e ∷ without_file path (map file_of es)) (without_file path (map file_of es))) all.0
    ∙ ap (λ (fs : List File). file_of e ∷ fs) (none_removed path es all.1)

-- an entry that is removed from a map
pub map_remove_entry : (path : List ℕ) (es : List Entry) → IsStrictlySortedBy text_cmp (keys_of es) → map file_of (remove_entry (is_at (text_cmp path)) es) ≡ without_file path (map file_of es)
unfolding IsStrictlySortedBy
map_remove_entry path [] o = refl
map_remove_entry path (e ∷ es) o = at (is_at (text_cmp path) e.0) refl o.0 (map_remove_entry path es o.1)
  where
    left : Bool → List File → List File
    left b rest = cond (not b) (file_of e ∷ rest) rest

    at : (b : Bool) → is_at (text_cmp path) e.0 ≡ b → AllByRecursion (λ p. text_cmp e.0 p ≡ Less) (keys_of es) → map file_of (remove_entry (is_at (text_cmp path)) es) ≡ without_file path (map file_of es) →
        map file_of (cond b es (e ∷ remove_entry (is_at (text_cmp path)) es)) ≡ left b (without_file path (map file_of es))
    at true is all rest =
        sym (none_removed path es (subst (λ (q : List ℕ). AllByRecursion (λ p. text_cmp q p ≡ Less) (keys_of es)) (sym (same_name path e.0 is)) all))
    at false is all rest = ap (λ (fs : List File). file_of e ∷ fs) rest

before_entries : (path : List ℕ) (es : List Entry) → AllByRecursion (λ p. text_cmp path p ≡ Less) (keys_of es) → IsBefore path (paths_of (map file_of es))
before_entries path [] all = tt
before_entries path (e ∷ es) all = (all.0, before_entries path es all.1)

-- a map's entries are files in order
pub entries_in_order : (es : List Entry) → IsStrictlySortedBy text_cmp (keys_of es) → AreInOrder (map file_of es)
unfolding IsStrictlySortedBy
entries_in_order [] o = tt
entries_in_order (e ∷ es) o = (before_entries e.0 es o.0, entries_in_order es o.1)

-- the path stands behind each of these files
abbrev IsBehind : List ℕ → List File → Type 0
IsBehind path [] = Unit {0}
IsBehind path (f ∷ fs) = (text_cmp path f.path ≡ Greater) × IsBehind path fs

put_last : (held : List File) (f : File) → IsBehind f.path held → put_file f held ≡ held ++ f ∷ []
put_last [] f behind = refl
put_last (h ∷ hs) f behind =
    ap (λ (r : Ordering). match_ordering r (f ∷ h ∷ hs) (record { path = h.path; bytes = f.bytes } ∷ hs) (h ∷ put_file f hs)) behind.0
    ∙ ap (λ (fs : List File). h ∷ fs) (put_last hs f behind.1)

-- each of these files stands behind all that are held
abbrev EachBehind : List File → List File → Type 0
EachBehind held [] = Unit {0}
EachBehind held (f ∷ fs) = IsBehind f.path held × EachBehind held fs

behind_one : (held : List File) (f : File) (path : List ℕ) → IsBehind path held → text_cmp path f.path ≡ Greater → IsBehind path (held ++ f ∷ [])
behind_one [] f path behind e = (e, tt)
behind_one (h ∷ hs) f path behind e = (behind.0, behind_one hs f path behind.1 e)

behind_more : (held : List File) (f : File) (fs : List File) → EachBehind held fs → IsBefore f.path (paths_of fs) → EachBehind (held ++ f ∷ []) fs
behind_more held f [] each before = tt
behind_more held f (g ∷ gs) each before =
    (behind_one held f g.path each.0 (less_back f.path g.path before.0), behind_more held f gs each.1 before.1)

put_all_behind : (held fs : List File) → EachBehind held fs → AreInOrder fs → put_all held fs ≡ held ++ fs
put_all_behind held [] each order = sym (append-nil held)
put_all_behind held (f ∷ fs) each order =
    ap (λ (h : List File). put_all h fs) (put_last held f each.0)
    ∙ put_all_behind (held ++ f ∷ []) fs (behind_more held f fs each.1 order.0) order.1
    ∙ append_assoc held (f ∷ []) fs

behind_none : (fs : List File) → EachBehind [] fs
behind_none [] = tt
behind_none (f ∷ fs) = (tt, behind_none fs)

-- files in order, put where there are none, are those files
pub put_all_in_order : (files : List File) → AreInOrder files → put_all [] files ≡ files
put_all_in_order files order = put_all_behind [] files (behind_none files) order

abbrev pub outside : List ℕ → Bool
outside path = not (is_in_build path)

-- the paths below a folder, of the files that aren't in the builds' folder
pub paths_outside : (dir : List ℕ) (files : List File) → filter (λ p. not (is_in_build p)) (paths_below dir files) ≡ paths_below dir (outside_build files)
paths_outside dir [] = refl
paths_outside dir (f ∷ fs) = at (is_below dir f.path) (not (is_in_build f.path)) refl refl (paths_outside dir fs)
  where
    at : (b o : Bool) → is_below dir f.path ≡ b → outside f.path ≡ o → filter outside (paths_below dir fs) ≡ paths_below dir (outside_build fs) → filter outside (cond b (f.path ∷ paths_below dir fs) (paths_below dir fs)) ≡ paths_below dir (cond o (f ∷ outside_build fs) (outside_build fs))
    at true true is out rest =
        ap (λ (t : Bool). cond t (f.path ∷ filter outside (paths_below dir fs)) (filter outside (paths_below dir fs))) out
        ∙ ap (λ (ps : List (List ℕ)). f.path ∷ ps) rest
        ∙ sym (ap (λ (t : Bool). cond t (f.path ∷ paths_below dir (outside_build fs)) (paths_below dir (outside_build fs))) is)
    at true false is out rest =
        ap (λ (t : Bool). cond t (f.path ∷ filter outside (paths_below dir fs)) (filter outside (paths_below dir fs))) out ∙ rest
    at false true is out rest =
        rest ∙ sym (ap (λ (t : Bool). cond t (f.path ∷ paths_below dir (outside_build fs)) (paths_below dir (outside_build fs))) is)
    at false false is out rest = rest

abbrev tied : List ℕ → File → Bool
tied path f = is_eq (text_cmp path f.path)

abbrev bytes_of : Option File → Option (List ℕ)
bytes_of found = option_map (λ (f : File). f.bytes) found

-- a file outside the builds' folder is found among those outside
pub bytes_outside : (path : List ℕ) (files : List File) → is_in_build path ≡ false → bytes_at path (outside_build files) ≡ bytes_at path files
bytes_outside path [] out = refl
bytes_outside path (f ∷ fs) out = at (not (is_in_build f.path)) (is_eq (text_cmp path f.path)) refl refl (bytes_outside path fs out)
  where
    at : (o t : Bool) → not (is_in_build f.path) ≡ o → tied path f ≡ t → bytes_at path (outside_build fs) ≡ bytes_at path fs → bytes_at path (cond o (f ∷ outside_build fs) (outside_build fs)) ≡ bytes_of (cond t (Some f) (find (tied path) fs))
    at true true o t rest = ap (λ (b : Bool). bytes_of (cond b (Some f) (find (tied path) (outside_build fs)))) t
    at true false o t rest = ap (λ (b : Bool). bytes_of (cond b (Some f) (find (tied path) (outside_build fs)))) t ∙ rest
    at false true o t rest =
        let own : true ≡ false = sym (ap not out) ∙ ap (λ (p : List ℕ). not (is_in_build p)) (same_name path f.path t) ∙ o in cc
    at false false o t rest = rest

-- the paths below a folder stand in order, where the files do
pub below_in_order : (paths : List (List ℕ)) (dir : List ℕ) (es : List Entry) → paths ≡ paths_below dir (map file_of es) → IsStrictlySortedBy text_cmp (keys_of es) → ArePathsInOrder paths
below_in_order paths dir es e o =
    subst (λ (ps : List (List ℕ)). ArePathsInOrder ps) (sym e) (in_order_filter (is_below dir) (paths_of (map file_of es)) (entries_in_order es o))

pub copied_in_order : (files : List File) (es : List Entry) → files ≡ map file_of es → IsStrictlySortedBy text_cmp (keys_of es) → AreInOrder files
copied_in_order files es e o = subst (λ (fs : List File). AreInOrder fs) (sym e) (entries_in_order es o)

pub all_below : (paths : List (List ℕ)) (dir : List ℕ) (files : List File) → paths ≡ paths_below dir files → All (λ (p : List ℕ). is_below dir p ≡ true) paths
all_below paths dir files e =
    subst (λ (ps : List (List ℕ)). All (λ (p : List ℕ). is_below dir p ≡ true) ps) (sym e) (filter_passes (is_below dir) (paths_of files))

not_true : (b : Bool) → not b ≡ true → b ≡ false
not_true true e = cc
not_true false e = refl

pub all_outside : (paths ps : List (List ℕ)) → paths ≡ filter outside ps → All (λ (p : List ℕ). is_in_build p ≡ false) paths
all_outside paths ps e =
    subst (λ (qs : List (List ℕ)). All (λ (p : List ℕ). is_in_build p ≡ false) qs) (sym e)
    (λ k d l. not_true (is_in_build (slice_index_or (filter outside ps) k d)) (filter_passes outside ps k d l))
