-- What these types own and show names no thread.
use Rattle.std.proofs.Common.{ℕ, ◌+◌, List, [], ◌∷◌, length, Bool, true, false}
use base.Fraction.{full_share}
use base.Shift.{Keyless}
use denote.Builtin.{u8}
use denote.Array.{Array}
use denote.RawPtr.{Ptr, ◌+ₚ◌, block_ptr, null_ptr, block_of, count_of}
use denote.Param.Send.{IsSend, part_keyless, array_send, sendable, Frees, struct_send, owning_send}
use denote.RattleType.{RattleType}
use denote.Struct.Declared as declared
use Rattle.std.specs.declared.alloc.Allocator.{Ghosts}
use Rattle.std_alloc.proofs.SendSync.{Vec-send}
use Rattle.raw_range.specs.contracts.memory.Unallocated as Unallocated
use Rattle.raw_range.specs.contracts.memory.Run as Run
use Rattle.raw_range.specs.contracts.memory.Held as Held
use Rattle.raw_range.specs.contracts.memory.Unfilled as Unfilled
use Rattle.raw_range.specs.contracts.memory.Sole as Sole
use Rattle.raw_range.specs.contracts.memory.Sole.TheInside as Inside
use Rattle.layout.specs.Extents.{Extent}
use Rattle.raw_range.specs.inside.Covered.{is_allocated}
use Rattle.std.specs.Prelude.{Option, Some, None}
use Rattle.raw_range.specs.Memory.{Lent}
use Rattle.raw_range.specs.inside.Ownership.{run_owns, room_owns, byte_owns, rest_owns, held_owns}

pub u8-send : IsSend u8
u8-send = search sendable

pub run_owns-keyless : (p : Ptr) (xs : List ℕ) → Keyless (run_owns p xs)
run_owns-keyless (block_ptr b o) xs = part_keyless (Array u8 (length xs)) (array_send u8 (length xs) u8-send) full_share xs b o
run_owns-keyless null_ptr xs = tt

room_owns-keyless : (p : Ptr) (n : ℕ) → Keyless (room_owns p n)
room_owns-keyless (block_ptr b o) n = tt
room_owns-keyless null_ptr n = tt

pub sole-send : (A : RattleType) (g : Ghosts A.Denot) → IsSend A → Frees g g.dealloc_token → IsSend (Sole.the_row A g)
sole-send A g s f = record {
  owned = λ e vs. (
    (λ _. tt),
    λ v. (tt, (tt, (room_owns-keyless e.ptr e.len, (struct_send (declared.shape (Inside.the_type A g)) (Vec-send u8 A g u8-send s f, tt)).owned (v.vec, tt) vs))),
  );
  leaving = λ k x w. tt;
}

byte_owns-keyless : (y : Bool) (b o x : ℕ) → Keyless (byte_owns y b o x)
byte_owns-keyless true b o x = tt
byte_owns-keyless false b o x = part_keyless u8 u8-send full_share x b o

rest_owns-keyless : (allocated : List Extent) (b o i : ℕ) (xs : List ℕ) → Keyless (rest_owns allocated b o i xs)
rest_owns-keyless allocated b o i [] = tt
rest_owns-keyless allocated b o i (x ∷ xs) = (byte_owns-keyless (is_allocated allocated i) b o x, rest_owns-keyless allocated b (o + 1) (i + 1) xs)

pub run-send : IsSend Run.the_row
run-send = owning_send Run.the_type tt (λ d. run_owns-keyless d.ptr d.items) (λ k x w. tt)

pub unfilled-send : IsSend Unfilled.the_row
unfilled-send = owning_send Unfilled.the_type tt (λ d. room_owns-keyless d.ptr d.len) (λ k x w. tt)

pub unallocated-send : IsSend Unallocated.the_row
unallocated-send = owning_send Unallocated.the_type tt (λ d. rest_owns-keyless d.allocated (block_of d.ptr) (count_of d.ptr) 0 d.bytes) (λ k x w. tt)

held_owns-keyless : (piece : Option Lent) → Keyless (held_owns piece)
held_owns-keyless None = tt
held_owns-keyless (Some piece) = run_owns-keyless (piece.home +ₚ piece.at) piece.bytes

pub held-send : IsSend Held.the_row
held-send = owning_send Held.the_type tt (λ d. held_owns-keyless d.piece) (λ k x w. tt)
