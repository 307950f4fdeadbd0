-- Paths below a root, by their texts: segments with slashes between them.
use Rattle.std.specs.Prelude.{ℕ, Bool, not, ◌&&◌, ◌||◌, ◌==◌, nat_lt, List, [], ◌∷◌, ◌++◌, Option, Some, None, is_some, if◌then◌else◌, codes, bytes_eq, flat_map}
use Rattle.std.specs.List.{slice_split, join_with_byte, list_any, list_all, before_first}

abbrev pub is_slash : ℕ → Bool
is_slash byte = byte == 47

-- a control, or a backslash
abbrev pub is_refused : ℕ → Bool
is_refused byte = nat_lt byte 32 || (byte == 127 || byte == 92)

-- a byte that no segment has
abbrev pub is_outside : ℕ → Bool
is_outside byte = is_slash byte || is_refused byte

-- a name in a folder: not empty, not `.` or `..`, with no slash, control or backslash
abbrev pub is_segment : List ℕ → Bool
is_segment name = not (bytes_eq name [] || bytes_eq name (codes ".")) && not (bytes_eq name (codes "..")) && not (list_any is_outside name)

-- the segments of a path; the root has none
abbrev pub segments_of : List ℕ → List (List ℕ)
segments_of [] = []
segments_of (byte ∷ bytes) = slice_split is_slash (byte ∷ bytes)

abbrev pub path_of : List (List ℕ) → List ℕ
path_of segments = join_with_byte 47 segments

-- what the further segments add to the first
abbrev pub with_slashes : List (List ℕ) → List ℕ
with_slashes segments = flat_map (λ s. 47 ∷ s) segments

abbrev pub is_path : List ℕ → Bool
is_path path = list_all is_segment (segments_of path)

-- what the paths below a folder begin with
abbrev pub folder_text : List ℕ → List ℕ
folder_text [] = []
folder_text (byte ∷ bytes) = (byte ∷ bytes) ++ 47 ∷ []

-- the path of a name, or of a path, below a folder
abbrev pub child_of : List ℕ → List ℕ → List ℕ
child_of folder name = folder_text folder ++ name

-- what follows a beginning, where the text has it
abbrev pub text_after : List ℕ → List ℕ → Option (List ℕ)
text_after [] text = Some text
text_after (b ∷ bs) [] = None
text_after (b ∷ bs) (c ∷ cs) = if b == c then text_after bs cs else None

-- a path as it is seen from a folder
abbrev pub path_from : List ℕ → List ℕ → Option (List ℕ)
path_from folder path = text_after (folder_text folder) path

abbrev pub is_below : List ℕ → List ℕ → Bool
is_below folder path = is_some (path_from folder path)

abbrev pub first_segment : List ℕ → List ℕ
first_segment path = before_first is_slash path
