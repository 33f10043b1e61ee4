-- What lies behind the first two numbers of an entry's key.
use Rattle.std.specs.Prelude.{ℕ, ◌*◌, ◌^◌, List, [], Option, Some, None}
use Rattle.bdb_memory.specs.declared.head.Head.{Head}
use Rattle.bdb_memory.specs.declared.tail.Tail.{Tail}
use Rattle.bdb_memory.specs.declared.tail.Tail.TheVariants.{Bare, Empty, Four, Long, Far}

-- the number of the table
abbrev pub table_in : Tail → ℕ
table_in (Bare tab count byte third) = tab
table_in (Empty tab count byte third) = tab
table_in (Four tab count byte bytes third) = tab
table_in (Long tab count byte long) = tab
table_in (Far tab count more) = tab

-- how many bytes of the key are numbers
abbrev pub count_in : Tail → ℕ
count_in (Bare tab count byte third) = count
count_in (Empty tab count byte third) = count
count_in (Four tab count byte bytes third) = count
count_in (Long tab count byte long) = count
count_in (Far tab count more) = count

-- the third of the numbers
abbrev pub third_in : Tail → ℕ
third_in (Bare tab count byte third) = third
third_in (Empty tab count byte third) = third
third_in (Four tab count byte bytes third) = third
third_in (Long tab count byte long) = long.value.third
third_in (Far tab count more) = more.value.third

-- the number of eight bytes of which this is the highest and the others are zero
abbrev pub highest : ℕ → ℕ
highest byte = byte * 2 ^ 56

-- the fourth of the numbers
abbrev pub fourth_in : Tail → ℕ
fourth_in (Bare tab count byte third) = highest byte
fourth_in (Empty tab count byte third) = highest byte
fourth_in (Four tab count byte bytes third) = highest byte
fourth_in (Long tab count byte long) = highest byte
fourth_in (Far tab count more) = more.value.fourth

-- the bytes of the key behind the numbers
abbrev pub rest_in : Tail → List ℕ
rest_in (Bare tab count byte third) = []
rest_in (Empty tab count byte third) = []
rest_in (Four tab count byte bytes third) = []
rest_in (Long tab count byte long) = []
rest_in (Far tab count more) = more.value.rest.items

-- the row, if there is one
abbrev pub row_in : Tail → Option (List ℕ)
row_in (Bare tab count byte third) = None
row_in (Empty tab count byte third) = Some []
row_in (Four tab count byte bytes third) = Some bytes
row_in (Long tab count byte long) = Some long.value.bytes.items
row_in (Far tab count more) = more.value.row

-- the head of a place with these first two numbers
abbrev pub head_in : ℕ → ℕ → Tail → Head
head_in first second t = record { tab = table_in t; count = count_in t; first = first; second = second; third = third_in t; fourth = fourth_in t }
