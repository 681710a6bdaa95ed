-- The model of the queens: on a board with so many rows and columns there is one queen in each row, and no two of them
-- attack each other. For each row i, counted from 1, it has the items
--
--     new_int(qi,1,N)
--     new_int(ai,1+i,N+i)
--     int_plus(qi,i,ai)
--     new_int(di,1-i,N-i)
--     int_plus(qi,-i,di)
--
-- where qi is the column of the queen in row i, and ai and di tell its two diagonals; and then
--
--     int_array_allDiff([q1,..,qN])
--     int_array_allDiff([a1,..,aN])
--     int_array_allDiff([d1,..,dN])
--     solve satisfy
use Rattle.std.specs.Prelude.{ℕ, zero, suc, ◌+◌, ◌*◌, ℤ, pos, ◌+ℤ◌, ◌-ℤ◌, neg_ℤ, List, []}
use Rattle.std.specs.Prelude.{◌∷◌, ◌++◌, codes, decimal, None}
use Rattle.model_meaning.specs.declared.model.Kind.TheVariants.{Range}
use Rattle.model_meaning.specs.declared.model.Decl.{Decl}
use Rattle.model_meaning.specs.declared.model.Stmt.{Stmt}
use Rattle.model_meaning.specs.declared.model.Goal.TheVariants.{Satisfy}
use Rattle.model_meaning.specs.declared.model.Model.{Model}
use Rattle.model_meaning.specs.declared.what.IntTerm.{IntTerm}
use Rattle.model_meaning.specs.declared.what.IntTerm.TheVariants.{Number, Of}
use Rattle.model_meaning.specs.declared.what.What.TheVariants.{IntOp, IntAllDifferent}
use Rattle.model_meaning.specs.declared.statement.Arithmetic.TheVariants.{Plus}
use Rattle.model_meaning.specs.declared.statement.AllDifferent.TheVariants.{Plain}

-- Rows are counted from 0 here, and row k has the number k + 1 in its names. The places of its integers are 3k, 3k + 1
-- and 3k + 2, and its items have the numbers 5k + 1 to 5k + 5.

-- the integer of a row that a letter names, item n
abbrev pub integer : ℕ → List ℕ → ℕ → ℤ → ℤ → Decl
integer n letter k low high = record { number = n; name = letter ++ decimal (k + 1); kind = Range low high }

-- the integers of a row: the column of its queen, and that column and the number of the row added and subtracted
abbrev pub column : ℕ → ℕ → Decl
column size k = integer (5 * k + 1) (codes "q") k (pos 1) (pos size)

abbrev pub sum : ℕ → ℕ → Decl
sum size k = integer (5 * k + 2) (codes "a") k (pos 1 +ℤ pos (k + 1)) (pos size +ℤ pos (k + 1))

abbrev pub difference : ℕ → ℕ → Decl
difference size k = integer (5 * k + 4) (codes "d") k (pos 1 -ℤ pos (k + 1)) (pos size -ℤ pos (k + 1))

abbrev pub row_integers : ℕ → ℕ → List Decl
row_integers size k = column size k ∷ sum size k ∷ difference size k ∷ []

-- item n: an integer and a number are another integer
abbrev pub sum_is : ℕ → ℕ → ℤ → ℕ → Stmt
sum_is n left z value = record { number = n; what = IntOp (codes "int_plus") Plus (Of left) (Number z) (Of value) }

-- the statements of a row
abbrev pub row_sums : ℕ → List Stmt
row_sums k = sum_is (5 * k + 3) (3 * k) (pos (k + 1)) (3 * k + 1)
    ∷ sum_is (5 * k + 5) (3 * k) (neg_ℤ (pos (k + 1))) (3 * k + 2) ∷ []

-- item n: members differ
abbrev pub differ : ℕ → List IntTerm → Stmt
differ n members = record { number = n; what = IntAllDifferent (codes "int_array_allDiff") Plain members None None }

-- those of the first rows

abbrev pub integers_of : ℕ → ℕ → List Decl
integers_of size zero = []
integers_of size (suc k) = integers_of size k ++ row_integers size k

abbrev pub sums_of : ℕ → List Stmt
sums_of zero = []
sums_of (suc k) = sums_of k ++ row_sums k

-- the integers of one letter, which is the first, second or third one of each row
abbrev pub members_of : ℕ → ℕ → List IntTerm
members_of letter zero = []
members_of letter (suc k) = members_of letter k ++ Of (3 * k + letter) ∷ []

-- the model
abbrev pub queens : ℕ → Model
queens size = record {
  decls = integers_of size size;
  stmts =
      sums_of size
      ++ (differ (5 * size + 1) (members_of 0 size) ∷ differ (5 * size + 2) (members_of 1 size)
      ∷ differ (5 * size + 3) (members_of 2 size) ∷ []);
  goal = Satisfy;
}
