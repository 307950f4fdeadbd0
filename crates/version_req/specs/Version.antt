-- Which texts are versions.
use Rattle.std.specs.Prelude.{ℕ, Bool, ◌&&◌, List, Option, Some, None, is_ok, if◌then◌else◌}
use Rattle.std.specs.Str.{is_utf8}
use Rattle.semver.specs.Parse.{version_parts}

-- a version of Semantic Versioning 2.0.0
abbrev pub is_version : List ℕ → Bool
is_version text = is_utf8 text && is_ok (version_parts text)

-- the text, where it is a version
abbrev pub if_version : List ℕ → Option (List ℕ)
if_version text = if is_version text then Some text else None
