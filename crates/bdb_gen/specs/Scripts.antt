-- Scripts made from a number.
use Rattle.std.specs.Prelude.{ℕ, ◌+◌, ◌%◌, ◌==◌, nat_lt, zero, suc, List, [], ◌∷◌, ◌++◌, if◌then◌else◌, codes}
use Rattle.std.specs.Fmt.{decimal}
use Rattle.std.specs.List.{flat_map}
use Rattle.bdb_gen.specs.Draws.{next_state, state_after, drawn, draws}

-- the end of a line
abbrev pub line_end : List ℕ
line_end = 10 ∷ []

-- the users, by number
abbrev pub users : List ℕ
users = 0 ∷ 1 ∷ 2 ∷ 3 ∷ 4 ∷ 5 ∷ 6 ∷ 7 ∷ []

-- the line that makes a user
unfoldable pub user_line : ℕ → List ℕ
user_line u = codes "create user 'u" ++ decimal u ++ codes "';" ++ line_end

-- the line that makes the relation
unfoldable pub relation_line : List ℕ
relation_line = codes "create relation R(k int, v int);" ++ line_end

-- what a script begins with: its users, and its relation
abbrev pub first_lines : List ℕ
first_lines = flat_map user_line users ++ relation_line

-- the limits of the draws of a path's further users
abbrev pub sevens : ℕ → List ℕ
sevens zero = []
sevens (suc n) = 7 ∷ sevens n

-- the limits of the draws of a path of so many users
abbrev pub path_limits : ℕ → List ℕ
path_limits zero = []
path_limits (suc n) = 8 ∷ sevens n

-- the user behind a user: further by one and by a draw, round the users
abbrev pub next_user : ℕ → ℕ → ℕ
next_user u n = (u + 1 + n) % 8

-- the users behind a user, by draws
abbrev pub followers : ℕ → List ℕ → List ℕ
followers u [] = []
followers u (n ∷ ns) = next_user u n ∷ followers (next_user u n) ns

-- the users of a path, by draws: the first is drawn itself
abbrev pub users_of : List ℕ → List ℕ
users_of [] = []
users_of (u ∷ ns) = u ∷ followers u ns

-- the path that is drawn from a state: first how many users it has, and then each
unfoldable pub path : ℕ → List ℕ
path x = users_of (draws (next_state x) (path_limits (drawn x 4)))

-- the state behind a path
unfoldable pub after_path : ℕ → ℕ
after_path x = state_after (next_state x) (drawn x 4)

-- a user in a path
unfoldable pub belief_text : ℕ → List ℕ
belief_text u = codes "BELIEF 'u" ++ decimal u ++ codes "' "

-- the text of the path that is drawn from a state
unfoldable pub path_text : ℕ → List ℕ
path_text x = flat_map belief_text (path x)

-- `not`, where 0 was drawn
unfoldable pub not_text : ℕ → List ℕ
not_text n = if n == 0 then codes "not " else []

-- the relation and the values of an insert
unfoldable pub values_text : ℕ → ℕ → List ℕ
values_text k v = codes "R values(" ++ decimal k ++ codes "," ++ decimal v ++ codes ");" ++ line_end

-- the insert of a key: a path is drawn, then whether it is negated, and then the value
abbrev pub insert_line : ℕ → ℕ → List ℕ
insert_line x k = codes "insert into " ++ path_text x ++ not_text (drawn (after_path x) 4) ++ values_text k (drawn (next_state (after_path x)) 3)

-- a text, a key, and the end of a command
unfoldable pub with_key : List ℕ → ℕ → List ℕ
with_key text k = text ++ decimal k ++ codes ";" ++ line_end

-- the delete of a key: a path is drawn
abbrev pub delete_line : ℕ → ℕ → List ℕ
delete_line x k = codes "delete from " ++ path_text x ++ with_key (codes "R where k = ") k

-- who believes what of a key
abbrev pub believers_line : ℕ → List ℕ
believers_line k = with_key (codes "select U.name, X.v from Users U, BELIEF U.uid R X where X.k = ") k

-- who denies what is believed of a key
abbrev pub deniers_line : ℕ → List ℕ
deniers_line k = with_key (codes "select U.name, X.v from Users U, R X, BELIEF U.uid not R Y where Y.k = X.k and Y.v = X.v and X.k = ") k

-- the line of a kind and a key, with what is drawn from a state on
abbrev pub line_of : ℕ → ℕ → ℕ → List ℕ
line_of kind k x = if nat_lt kind 6 then insert_line x k else (if nat_lt kind 8 then delete_line x k else (if kind == 8 then believers_line k else deniers_line k))

-- the state behind it
abbrev pub after_line_of : ℕ → ℕ → ℕ
after_line_of kind x = if nat_lt kind 6 then next_state (next_state (after_path x)) else (if nat_lt kind 8 then after_path x else x)

-- the line that is drawn from a state: its kind, its key, and then what it needs
abbrev pub line : ℕ → List ℕ
line x = line_of (drawn x 10) (drawn (next_state x) 50) (next_state (next_state x))

-- the state behind it
abbrev pub after_line : ℕ → ℕ
after_line x = after_line_of (drawn x 10) (next_state (next_state x))

-- so many lines, drawn one after the other
abbrev pub lines : ℕ → ℕ → List ℕ
lines x zero = []
lines x (suc n) = line x ++ lines (after_line x) n

-- the script of a seed and a size
abbrev pub script : ℕ → ℕ → List ℕ
script seed size = first_lines ++ lines seed size
