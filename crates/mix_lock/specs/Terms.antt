-- What terms say of a release.
use Rattle.std.specs.Prelude.{ℕ, Bool, true, false, ◌&&◌, ◌||◌, nat_le, List, [], ◌∷◌, Option, Some, None, option_and_then, Result, Ok, Err, if◌then◌else◌, codes, bytes_eq}
use Rattle.std.specs.List.{list_all}
use Rattle.hex.specs.Hex.{decode_of}
use Rattle.hex.specs.declared.error.FromHexError.{FromHexError}
use Rattle.term_values.specs.declared.term.Term.{Term}
use Rattle.term_values.specs.Apps.{app_of}
use Rattle.term_values.specs.Views.{Named, atom_of, string_of, list_of, tuple_of, keywords_of, all_of}
use Rattle.version_req.specs.Version.{if_version}
use Rattle.mix_lock.specs.declared.entry.HexEntry.{HexEntry}
use Rattle.mix_lock.specs.declared.entry.LockDep.{LockDep}
use Rattle.mix_lock.specs.declared.deps.Link.{Link}
use Rattle.mix_lock.specs.declared.release.Release.{Release}
use Rattle.mix_lock.specs.declared.release.Build.{Build}

abbrev pub is_named : List ℕ → Option (List ℕ) → Bool
is_named name None = false
is_named name (Some other) = bytes_eq other name

-- the atom `:hex`
abbrev pub is_tag : Term → Bool
is_tag t = is_named (codes "hex") (atom_of t)

abbrev tag_first : Option (List Term) → Bool
tag_first None = false
tag_first (Some []) = false
tag_first (Some (tag ∷ ts)) = is_tag tag

-- a tuple with `:hex` first
abbrev pub is_hex : Term → Bool
is_hex t = tag_first (tuple_of t)

-- a list of names of apps
abbrev pub names_of : Term → Option (List (List ℕ))
names_of t = option_and_then (all_of app_of) (list_of t)

-- a string that is a version
abbrev pub version_of : Term → Option (List ℕ)
version_of t = option_and_then if_version (string_of t)

-- a digit, or a letter from a to f in lower case
abbrev pub is_lower_digit : ℕ → Bool
is_lower_digit byte = (nat_le 48 byte && nat_le byte 57) || (nat_le 97 byte && nat_le byte 102)

abbrev pub if_decoded : Result (List ℕ) FromHexError → Option (List ℕ)
if_decoded (Ok bytes) = Some bytes
if_decoded (Err e) = None

-- the bytes that pairs of such digits write
abbrev pub bytes_in : List ℕ → Option (List ℕ)
bytes_in text = if list_all is_lower_digit text then if_decoded (decode_of text) else None

-- a string of such pairs
abbrev pub bytes_of : Term → Option (List ℕ)
bytes_of t = option_and_then bytes_in (string_of t)

-- the value that stands first under a name
abbrev pub under : List ℕ → List Named → Option Term
under name [] = None
under name (option ∷ options) = if bytes_eq name option.0 then Some option.1 else under name options

abbrev truth_in : List ℕ → Option Bool
truth_in name = if bytes_eq name (codes "true") then Some true else if bytes_eq name (codes "false") then Some false else None

-- an atom `true` or `false`
abbrev pub truth_of : Term → Option Bool
truth_of t = option_and_then truth_in (atom_of t)

-- the string `hexpm`
abbrev pub is_hexpm : Term → Bool
is_hexpm t = is_named (codes "hexpm") (string_of t)

abbrev pub says_hexpm : Option Term → Bool
says_hexpm None = false
says_hexpm (Some t) = is_hexpm t

abbrev pub link : Option (List ℕ) → Bool → Option Bool → Option Link
link (Some name) true (Some optional) = Some (record { «package» = name; optional = optional })
link name repo optional = None

abbrev pub link_in : List Named → Option Link
link_in options =
    link (option_and_then app_of (under (codes "hex") options)) (says_hexpm (under (codes "repo") options))
    (option_and_then truth_of (under (codes "optional") options))

-- of three options
abbrev pub three : List Named → Option Link
three (a ∷ b ∷ c ∷ []) = link_in (a ∷ b ∷ c ∷ [])
three options = None

-- `[hex: name, repo: "hexpm", optional: truth]`, the three in any order
abbrev pub link_of : Term → Option Link
link_of t = option_and_then three (keywords_of t)

abbrev pub dep : Option (List ℕ) → Option (List ℕ) → Option Link → Option LockDep
dep (Some app) (Some requirement) (Some l) = Some (record { app = app; requirement = requirement; «package» = l.package; optional = l.optional })
dep app requirement l = None

abbrev pub dep_by : Term → Term → Term → Option LockDep
dep_by app requirement options = dep (app_of app) (string_of requirement) (link_of options)

abbrev pub dep_in : List Term → Option LockDep
dep_in (app ∷ requirement ∷ options ∷ []) = dep_by app requirement options
dep_in ts = None

-- `{app, requirement, options}`, whose requirement need not be one
unfoldable pub dep_of : Term → Option LockDep
dep_of t = option_and_then dep_in (tuple_of t)

-- a list of names of apps
abbrev pub deps_of : Term → Option (List LockDep)
deps_of t = option_and_then (all_of dep_of) (list_of t)

-- a name, a version and the inner checksum
abbrev pub release : Option (List ℕ) → Option (List ℕ) → Option (List ℕ) → Option Release
release (Some name) (Some version) (Some inner) = Some (record { name = name; version = version; inner = inner })
release name version inner = None

unfoldable pub release_by : Term → Term → Term → Option Release
release_by name version inner = release (app_of name) (version_of version) (bytes_of inner)

-- by what it is compiled, and what it needs
abbrev pub build : Option (List (List ℕ)) → Option (List LockDep) → Option Build
build (Some managers) (Some deps) = Some (record { managers = managers; deps = deps })
build managers deps = None

unfoldable pub build_by : Term → Term → Option Build
build_by managers deps = build (names_of managers) (deps_of deps)

-- the outer checksum that is written; without it that is empty
abbrev pub outer_of : Option Term → Option (List ℕ)
outer_of None = Some []
outer_of (Some t) = bytes_of t

-- a release with its repository
abbrev pub joined : Release → Build → List ℕ → HexEntry
joined r b outer =
    record { name = r.name; version = r.version; inner = r.inner; managers = b.managers; deps = b.deps; repo = codes "hexpm"; outer = outer }

abbrev pub hex_entry : Release → Option Build → Bool → Option (List ℕ) → Option HexEntry
hex_entry r (Some b) true (Some outer) = Some (joined r b outer)
hex_entry r b repo outer = None

-- with what follows the release
unfoldable pub with_rest : Release → List Term → Option HexEntry
with_rest r (managers ∷ deps ∷ repo ∷ []) = hex_entry r (build_by managers deps) (is_hexpm repo) (outer_of None)
with_rest r (managers ∷ deps ∷ repo ∷ outer ∷ []) = hex_entry r (build_by managers deps) (is_hexpm repo) (outer_of (Some outer))
with_rest r ts = None

abbrev pub hex_in : List Term → Option HexEntry
hex_in (tag ∷ name ∷ version ∷ inner ∷ rest) = option_and_then (λ r. with_rest r rest) (release_by name version inner)
hex_in ts = None

-- `{:hex, name, version, inner, managers, deps, repo, outer}`, where requirements need not be some
unfoldable pub hex_of : Term → Option HexEntry
hex_of t = option_and_then hex_in (tuple_of t)
