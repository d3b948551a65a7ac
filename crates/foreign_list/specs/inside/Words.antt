-- The words of a list's table. Word 0 is the head, and word t + 1 is the next of the ticket t. A word is 0 for none, or t + 1 for
-- the ticket t.
use Rattle.std.specs.Prelude.{◌≡◌, ℕ, zero, suc, ◌+◌, cond, nat_eq, List, [], ◌∷◌, Option, Some, None, slice_index_or}
use mathlib.Core.Option as maybe
use Rattle.raw_range.specs.Memory.{Lent}
use Rattle.atomic_table.specs.Table.{State}
use Rattle.foreign_list.specs.declared.views.View.{View}

-- the table's state, with a piece or nothing in each slot
abbrev pub Table : Type 0
Table = State (Option Lent) View

abbrev pub Homes : Type 0
Homes = List (maybe.Option (Option Lent))

abbrev pub word_at : List ℕ → ℕ → ℕ
word_at words i = slice_index_or words i 0

-- a word as a ticket
abbrev pub ticket_of : ℕ → Option ℕ
ticket_of zero = None
ticket_of (suc t) = Some t

-- the word that leads to the first of these tickets
abbrev pub link_to : List ℕ → ℕ
link_to [] = 0
link_to (t ∷ ts) = suc t

-- from this word on, through the next words, stand these tickets and no others
abbrev pub IsChain : List ℕ → ℕ → List ℕ → Type 0
IsChain words word [] = word ≡ 0
IsChain words word (t ∷ ts) = (word ≡ suc t) × IsChain words (word_at words (suc t)) ts

-- the chain as the words give it, at most so many links far
abbrev pub chain : ℕ → List ℕ → ℕ → List ℕ
chain zero words word = []
chain (suc links) words zero = []
chain (suc links) words (suc t) = t ∷ chain links words (word_at words (suc t))

-- 1 where the two are one ticket
abbrev pub same : ℕ → ℕ → ℕ
same t u = cond (nat_eq t u) 1 0

-- how often a ticket stands on a list
abbrev pub times : ℕ → List ℕ → ℕ
times t [] = 0
times t (u ∷ us) = same t u + times t us
