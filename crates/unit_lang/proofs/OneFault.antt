-- No text has two first faults.
use Rattle.std.proofs.Common.{◌≡◌, ℕ, List, length, refl}
use Rattle.unit_lang.specs.declared.error.UnitCause.{UnitCause}
use Rattle.unit_lang.specs.Faults.{LineFault, HeadingFault, BodyFault, FileFault, UnitlessFault, FirstFault}
use Rattle.unit_lang.specs.Spells.{longest_line, longest_file}
use Rattle.unit_lang.proofs.Apart.{not_both, line_says_apart, line_blank_apart, heading_blank_apart, heading_names_apart}
use Rattle.unit_lang.proofs.OneLemmas.{blank_says_nothing, blank_names_nothing}

line_one : {line : List ℕ} {cause : UnitCause} (other : UnitCause) → LineFault line cause → LineFault line other → cause ≡ other
line_one other (LineFault.long h) (LineFault.long g) = refl
line_one other (LineFault.long {line = line} h) (LineFault.deep le d) = absurd (not_both (length line) longest_line le h)
line_one other (LineFault.long {line = line} h) (LineFault.great le n b) = absurd (not_both (length line) longest_line le h)
line_one other (LineFault.long {line = line} h) (LineFault.bad le n m solid none) = absurd (not_both (length line) longest_line le h)
line_one other (LineFault.deep {line = line} le d) (LineFault.long h) = absurd (not_both (length line) longest_line le h)
line_one other (LineFault.deep le d) (LineFault.deep lf e) = refl
line_one other (LineFault.deep le d) (LineFault.great lf n b) = absurd (n d)
line_one other (LineFault.deep le d) (LineFault.bad lf n m solid none) = absurd (n d)
line_one other (LineFault.great {line = line} le n b) (LineFault.long h) = absurd (not_both (length line) longest_line le h)
line_one other (LineFault.great le n b) (LineFault.deep lf d) = absurd (n d)
line_one other (LineFault.great le n b) (LineFault.great lf m a) = refl
line_one other (LineFault.great le n b) (LineFault.bad lf k m solid none) = absurd (m b)
line_one other (LineFault.bad {line = line} le n m solid none) (LineFault.long h) = absurd (not_both (length line) longest_line le h)
line_one other (LineFault.bad le n m solid none) (LineFault.deep lf d) = absurd (n d)
line_one other (LineFault.bad le n m solid none) (LineFault.great lf k b) = absurd (m b)
line_one other (LineFault.bad le n m solid none) (LineFault.bad lf k j firm nothing) = refl

heading_one : {line : List ℕ} {cause : UnitCause} (other : UnitCause) → HeadingFault line cause → HeadingFault line other → cause ≡ other
heading_one other (HeadingFault.long h) (HeadingFault.long g) = refl
heading_one other (HeadingFault.long {line = line} h) (HeadingFault.none le solid nameless) = absurd (not_both (length line) longest_line le h)
heading_one other (HeadingFault.none {line = line} le solid nameless) (HeadingFault.long h) = absurd (not_both (length line) longest_line le h)
heading_one other (HeadingFault.none le solid nameless) (HeadingFault.none lf firm unnamed) = refl

body_one : {number at : ℕ} {lines : List (List ℕ)} {cause : UnitCause} (place : ℕ) (other : UnitCause) → BodyFault number lines at cause → BodyFault number lines place other → (at ≡ place) × (cause ≡ other)
body_one place other (BodyFault.here f) (BodyFault.here g) = (refl, line_one other f g)
body_one place other (BodyFault.here f) (BodyFault.blank le p g) = absurd (line_blank_apart f le p)
body_one place other (BodyFault.here f) (BodyFault.says {s = s} le p g) = absurd (line_says_apart s f le p)
body_one place other (BodyFault.blank le p f) (BodyFault.here g) = absurd (line_blank_apart g le p)
body_one place other (BodyFault.blank le p f) (BodyFault.blank lf q g) = body_one place other f g
body_one place other (BodyFault.blank {line = line} le p f) (BodyFault.says {s = s} lf q g) = absurd (blank_says_nothing line s p q)
body_one place other (BodyFault.says {s = s} le p f) (BodyFault.here g) = absurd (line_says_apart s g le p)
body_one place other (BodyFault.says {line = line} {s = s} le p f) (BodyFault.blank lf q g) = absurd (blank_says_nothing line s q p)
body_one place other (BodyFault.says le p f) (BodyFault.says lf q g) = body_one place other f g

file_one : {number at : ℕ} {lines : List (List ℕ)} {cause : UnitCause} (place : ℕ) (other : UnitCause) → FileFault number lines at cause → FileFault number lines place other → (at ≡ place) × (cause ≡ other)
file_one place other (FileFault.here f) (FileFault.here g) = (refl, heading_one other f g)
file_one place other (FileFault.here f) (FileFault.blank le p g) = absurd (heading_blank_apart f le p)
file_one place other (FileFault.here f) (FileFault.heading title le n g) = absurd (heading_names_apart title f le n)
file_one place other (FileFault.blank le p f) (FileFault.here g) = absurd (heading_blank_apart g le p)
file_one place other (FileFault.blank le p f) (FileFault.blank lf q g) = file_one place other f g
file_one place other (FileFault.blank {line = line} le p f) (FileFault.heading title lf n g) = absurd (blank_names_nothing line title p n)
file_one place other (FileFault.heading title le n f) (FileFault.here g) = absurd (heading_names_apart title g le n)
file_one place other (FileFault.heading {line = line} title le n f) (FileFault.blank lf q g) = absurd (blank_names_nothing line title q n)
file_one place other (FileFault.heading title le n f) (FileFault.heading name lf m g) = body_one place other f g

unitless_one : {lines : List (List ℕ)} {cause : UnitCause} (other : UnitCause) → UnitlessFault lines cause → UnitlessFault lines other → cause ≡ other
unitless_one other (UnitlessFault.long h) (UnitlessFault.long g) = refl
unitless_one other (UnitlessFault.long {line = line} h) (UnitlessFault.none le) = absurd (not_both (length line) longest_line le h)
unitless_one other (UnitlessFault.none {line = line} le) (UnitlessFault.long h) = absurd (not_both (length line) longest_line le h)
unitless_one other (UnitlessFault.none le) (UnitlessFault.none lf) = refl

first_one : {text : List ℕ} {at : ℕ} {cause : UnitCause} (place : ℕ) (other : UnitCause) → FirstFault text at cause → FirstFault text place other → (at ≡ place) × (cause ≡ other)
first_one place other (FirstFault.long h) (FirstFault.long g) = (refl, refl)
first_one place other (FirstFault.long {text = text} h) (FirstFault.unitless le u f) = absurd (not_both (length text) longest_file le h)
first_one place other (FirstFault.long {text = text} h) (FirstFault.line le n f) = absurd (not_both (length text) longest_file le h)
first_one place other (FirstFault.unitless {text = text} le u f) (FirstFault.long h) = absurd (not_both (length text) longest_file le h)
first_one place other (FirstFault.unitless le u f) (FirstFault.unitless lf v g) = (refl, unitless_one other f g)
first_one place other (FirstFault.unitless le u f) (FirstFault.line lf n g) = absurd (n u)
first_one place other (FirstFault.line {text = text} le n f) (FirstFault.long h) = absurd (not_both (length text) longest_file le h)
first_one place other (FirstFault.line le n f) (FirstFault.unitless lf u g) = absurd (n u)
first_one place other (FirstFault.line le n f) (FirstFault.line lf m g) = file_one place other f g

-- no text has two first faults
pub faults_one : (text : List ℕ) (at place : ℕ) (cause other : UnitCause) → FirstFault text at cause → FirstFault text place other → (at ≡ place) × (cause ≡ other)
faults_one text at place cause other f g = first_one place other f g
