-- Listings of files, over SHA-256 (FIPS 180-4, section 6.2).
use Rattle.std.specs.Prelude.{◌≢◌, ℕ, ◌<◌, ◌^◌, List, [], ◌∷◌, ◌++◌, length, map, flat_map, IsTrue, decimal}
use Rattle.std.specs.List.{All, AllPairs}
use Rattle.std.specs.List.Sorted.{IsPermutation}
use Rattle.std.specs.Str.{IsUtf8}
use Rattle.hex.specs.Hex.{encode_lower}
use Rattle.sha2.specs.Sha256.{sha256}
use Rattle.mx_base.specs.declared.file.File.{File}
use Rattle.mx_base.specs.declared.row.FileRow.{FileRow}
use Rattle.mx_base.specs.Digest.{IsDigest}
use Rattle.mx_base.specs.Order.{ArePathsInOrder, paths_of}
use Rattle.mx_base.specs.Path.{is_path}

-- the files have different paths
abbrev pub AreApart : List File → Type 0
AreApart files = AllPairs (λ one other. one ≢ other) (paths_of files)

-- what a listing says of a file
abbrev pub row_of : File → FileRow
row_of file = record { path = file.path; length = length file.bytes; digest = sha256 file.bytes }

abbrev pub rows_of : List File → List FileRow
rows_of files = map row_of files

abbrev pub row_paths : List FileRow → List (List ℕ)
row_paths rows = map (λ row. row.path) rows

abbrev pub AreRowsInOrder : List FileRow → Type 0
AreRowsInOrder rows = ArePathsInOrder (row_paths rows)

-- the rows of these files, in the order of their paths
pub record IsListingOf (files : List File) (rows : List FileRow) : Type 0 where
  pub in_order : AreRowsInOrder rows
  pub same : IsPermutation (rows_of files) rows

-- what holds of a row by itself, since no file has 2^63 bytes
pub record IsRow (row : FileRow) : Type 0 where
  pub path : IsTrue (is_path row.path)
  pub utf8 : IsUtf8 row.path
  pub length : row.length < 2 ^ 63
  pub digest : IsDigest row.digest

-- what holds of the rows of a listing
pub record AreRows (rows : List FileRow) : Type 0 where
  pub in_order : AreRowsInOrder rows
  pub each : All IsRow rows

-- the digest in hexadecimal digits, the length and the path, with spaces between them and a newline behind
abbrev pub row_text : FileRow → List ℕ
row_text row = encode_lower row.digest ++ 32 ∷ decimal row.length ++ 32 ∷ row.path ++ 10 ∷ []

abbrev pub listing_text : List FileRow → List ℕ
listing_text rows = flat_map row_text rows

abbrev pub listing_digest : List FileRow → List ℕ
listing_digest rows = sha256 (listing_text rows)
