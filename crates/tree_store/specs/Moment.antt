-- What is written into a folder, and what a stop leaves of it.
use Rattle.std.specs.Prelude.{◌≡◌, ◌⊎◌, ℕ, Bool, List, [], ◌∷◌, ◌++◌, filter, take, Option, option_map}
use Rattle.mx_base.specs.declared.file.File.{File}
use Rattle.tree_store.specs.declared.holding.Holding.{Holding}
use Rattle.tree_store.specs.Files.{put_file, without_file, cut_at}
use Rattle.tree_store.specs.Holding.{marked, unmarked, with_held}

pub data Write : Type 0 where
  -- the mark is taken away
  Unmark : Write
  -- all files are taken away
  Clear : Write
  Put : (file : File) → Write
  Mark : (bytes : List ℕ) → Write

-- how far a write came
pub data Part : Type 0 where
  -- to its end
  Whole : Part
  -- nothing was written
  Untouched : Part
  -- the file, or the mark, is gone
  Gone : Part
  -- so many of the new bytes stand
  Begun : (count : ℕ) → Part
  -- these files are left, each whole
  Those : (stays : File → Bool) → Part

-- what a write that ends makes of what is held
abbrev pub done : Write → Holding → Holding
done Unmark held = unmarked held
done Clear held = with_held [] held
done (Put file) held = with_held (put_file file held.files) held
done (Mark bytes) held = marked bytes held

-- what is left of a file that was to be put, where it isn't put whole
abbrev pub put_part : File → Part → Holding → Holding
put_part file Gone held = with_held (without_file file.path held.files) held
put_part file (Begun count) held = with_held (put_file (cut_at count file) held.files) held
put_part file part held = held

-- the same of a mark
abbrev pub mark_part : List ℕ → Part → Holding → Holding
mark_part bytes Gone held = unmarked held
mark_part bytes (Begun count) held = marked (take count bytes) held
mark_part bytes part held = held

abbrev pub unmark_part : Part → Holding → Holding
unmark_part Gone held = unmarked held
unmark_part part held = held

abbrev pub clear_part : Part → Holding → Holding
clear_part (Those stays) held = with_held (filter stays held.files) held
clear_part part held = held

-- what stands after a write that didn't come to its end
abbrev pub stopped : Write → Part → Holding → Holding
stopped Unmark part held = unmark_part part held
stopped Clear part held = clear_part part held
stopped (Put file) part held = put_part file part held
stopped (Mark bytes) part held = mark_part bytes part held

-- what stands after a write that came so far
abbrev pub leaves : Write → Part → Holding → Holding
leaves write Whole held = done write held
leaves write part held = stopped write part held

-- a write, and how far it came
pub record Moment : Type 0 where
  pub write : Write
  pub part : Part

-- what is held after these
abbrev pub after_all : List Moment → Holding → Holding
after_all [] held = held
after_all (m ∷ ms) held = after_all ms (leaves m.write m.part held)

-- what a stop leaves while these are made, or between two of them: each write before in full, and of the one under way
-- any part
abbrev pub IsImage : List Moment → Holding → Holding → Type 0
IsImage [] held image = image ≡ held
IsImage (m ∷ ms) held image = ((part : Part) × (image ≡ leaves m.write part held)) ⊎ IsImage ms (leaves m.write m.part held) image

-- where moments are told, these came after those before
abbrev pub after_moments : Option (List Moment) → List Moment → Option (List Moment)
after_moments told more = option_map (λ before. before ++ more) told
