-- The text of a certificate. A level is how many of the path's first users are left out.
use Rattle.std.specs.Prelude.{ℕ, codes, List, [], ◌∷◌, ◌++◌, drop, length, map}
use Rattle.std.specs.List.{flat_map}
use Rattle.bdb_base.specs.declared.kinds.Catalog.{Catalog}
use Rattle.bdb_base.specs.declared.kinds.Sign.{Sign}
use Rattle.bdb_base.specs.declared.kinds.Sign.TheVariants.{Plus}
use Rattle.bdb_base.specs.declared.tuple.Tuple.{Tuple}
use Rattle.bdb_base.specs.Texts.{line}
use Rattle.bdb_render.specs.Replies.{count_reply, path_text, signed_text}
use Rattle.bdb_why.specs.declared.kinds.Ground.{Ground}
use Rattle.bdb_why.specs.declared.kinds.Ground.TheVariants.{Found, Blocked, Nowhere}
use Rattle.bdb_why.specs.declared.kinds.Ruled.{Ruled}
use Rattle.bdb_why.specs.declared.kinds.Why.{Why}
use Rattle.bdb_why.specs.declared.kinds.Why.TheVariants.{Stated, Other, Absent}

-- a signed tuple at a level of the path
abbrev pub signed_at_level : Catalog → List ℕ → ℕ → Sign → Tuple → List ℕ
signed_at_level catalog path level s t = signed_text catalog s t ++ codes " at " ++ path_text catalog (drop level path)

-- What decides of a signed tuple: at which level it is found, by this word; or at which level it is blocked, and by
-- what; or that it is nowhere.
abbrev pub reason_text : Catalog → List ℕ → List ℕ → Sign → Tuple → Ground → List ℕ
reason_text catalog path word s t (Found level) = word ++ codes " " ++ signed_at_level catalog path level s t
reason_text catalog path word s t (Blocked level by) = codes "blocked " ++ signed_at_level catalog path level s t ++ codes " by " ++ signed_text catalog by.sign by.tuple
reason_text catalog path word s t Nowhere = codes "nowhere " ++ signed_text catalog s t

-- what decides of the signed tuple that was asked for
abbrev pub own_text : Catalog → List ℕ → Tuple → Sign → Ground → List ℕ
own_text catalog path t s reason = reason_text catalog path (codes "stated") s t reason

-- what decides of another tuple
abbrev pub other_text : Catalog → List ℕ → Ruled → List ℕ
other_text catalog path r = reason_text catalog path (codes "other") Plus r.tuple r.reason

-- the lines of a certificate: `yes` and the reason; or `no`, the own reason, and then those of the other tuples
abbrev pub why_lines : Catalog → List ℕ → Tuple → Sign → Why → List (List ℕ)
why_lines catalog path t s (Stated reason) = (codes "yes " ++ own_text catalog path t s reason) ∷ []
why_lines catalog path t s (Other r) = (codes "yes " ++ other_text catalog path r) ∷ []
why_lines catalog path t s (Absent own others) = codes "no" ∷ own_text catalog path t s own ∷ map (other_text catalog path) others

-- the reply to `why`: the lines of the certificate, and then their number
abbrev pub why_reply : Catalog → List ℕ → Tuple → Sign → Why → List ℕ
why_reply catalog path t s y = flat_map line (why_lines catalog path t s y) ++ count_reply (length (why_lines catalog path t s y))
