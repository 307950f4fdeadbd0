-- Which versions a requirement takes.
use Rattle.std.specs.Prelude.{◌==◌, ◌&&◌, ◌||◌, nat_lt, not, Bool, true, false, length}
use Rattle.std.specs.List.{list_all, list_any}
use Rattle.std.specs.Ordering.{is_eq, is_ge, is_gt, is_le, is_lt, is_ne, nat_cmp, ordering_then}
use Rattle.std.specs.declared.cmp.Ordering.{Ordering}
use Rattle.semver.specs.Order.{pre_cmp}
use Rattle.semver.specs.Parse.{Parts}
use Rattle.version_req.specs.declared.operator.Operator.{Operator}
use Rattle.version_req.specs.declared.operator.Operator.TheVariants.{Equal, NotEqual, Greater, GreaterOrEqual, Less, LessOrEqual, Compatible}
use Rattle.version_req.specs.Condition.{Condition, Alternatives}

-- precedence, by SemVer 2.0.0, section 11: the numbers, then the pre-releases, and never build metadata
abbrev pub precedence : Parts → Parts → Ordering
precedence a b = ordering_then (nat_cmp a.0 b.0) (ordering_then (nat_cmp a.1 b.1)
    (ordering_then (nat_cmp a.2 b.2) (pre_cmp a.3 b.3)))

-- equal leading numbers: the major, and where the patch is written the minor too
abbrev pub leads_alike : Condition → Parts → Bool
leads_alike c v = (v.0 == c.operand.0) && (not c.patch_written || (v.1 == c.operand.1))

-- the version stands to the operand as the operator says; `~>` takes it as the least version
abbrev pub stands : Operator → Condition → Parts → Bool
stands Equal c v = is_eq (precedence v c.operand)
stands NotEqual c v = is_ne (precedence v c.operand)
stands Greater c v = is_gt (precedence v c.operand)
stands GreaterOrEqual c v = is_ge (precedence v c.operand)
stands Less c v = is_lt (precedence v c.operand)
stands LessOrEqual c v = is_le (precedence v c.operand)
stands Compatible c v = is_ge (precedence v c.operand) && leads_alike c v

-- whether it is a pre-release
abbrev pub has_pre : Parts → Bool
has_pre v = nat_lt 0 (length v.3)

-- `>`, `>=` and `~>`, which reach for later versions
abbrev pub takes_later : Operator → Bool
takes_later Greater = true
takes_later GreaterOrEqual = true
takes_later Compatible = true
takes_later operator = false

-- where pre-releases are not allowed, these refuse one unless their operand is one
abbrev pub bars : Condition → Parts → Bool
bars c v = takes_later c.operator && has_pre v && not (has_pre c.operand)

-- the version meets the comparison
abbrev pub holds : Parts → Bool → Condition → Bool
holds v allow_pre c = stands c.operator c v && (allow_pre || not (bars c v))

-- the version meets all comparisons of one alternative
abbrev pub sat : Alternatives → Parts → Bool → Bool
sat requirement v allow_pre = list_any (list_all (holds v allow_pre)) requirement
