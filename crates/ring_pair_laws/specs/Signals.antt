-- Where a send and a commit raise the peer's signal, by the words of the channel before the call. Indices of an end are in cells here.
use Rattle.std.specs.Prelude.{ℕ, ◌*◌, ◌%◌, Bool, true, false, ◌==◌, ◌&&◌, not, cond, List, slice_index, slice_set}
use Rattle.io_edge.specs.declared.side.Side.{Side}
use Rattle.ring_machine.specs.declared.last.Signalled.{Signalled}
use Rattle.ring_machine.specs.declared.last.Signalled.TheVariants.{Raised, Quiet}
use Rattle.ring_machine.specs.declared.place.Place.{Place}
use Rattle.ring_machine.specs.declared.place.Place.TheVariants.{Write, Read, Mask, Pending, Feature}
use Rattle.ring_machine.specs.Places.{index_of, low, is_index, out_of, in_of, peer_of, signal_of, raises_on_write, raises_on_commit}

-- the word at this place of a channel
abbrev pub word_at : ℕ → List ℕ → Place → ℕ
word_at n ws p = slice_index ws (index_of n p)

-- the part of a header word that counts
abbrev pub header : ℕ → List ℕ → Place → ℕ
header n ws p = low (word_at n ws p)

-- A send that finds room raises exactly where the peer asks for it, so mask is 0, and the peer had given back all that was sent before, so the read
-- word is the write index before the send. Source: Linux drivers/hv/ring_buffer.c, hv_signal_on_write
abbrev pub send_raises : ℕ → List ℕ → Side → ℕ → Bool
send_raises n ws x write = raises_on_write (8 * write) (header n ws (Mask (out_of x))) (header n ws (Read (out_of x)))

-- A commit raises exactly where the peer waits for room, so bit 0 of feature is set and pending isn't 0, and this commit makes that room: there was
-- no more than pending before it, and there is more than pending now. Source: Linux drivers/hv/ring_buffer.c, hv_pkt_iter_close
abbrev pub commit_raises : ℕ → List ℕ → Side → ℕ → ℕ → Bool
commit_raises n ws x start read =
    (header n ws (Feature (in_of x)) % 2 == 1)
    && (not (header n ws (Pending (in_of x)) == 0)
    && (is_index n (word_at n ws (Write (in_of x))) && raises_on_commit (8 * n) (header n ws (Write (in_of x))) (8 * start) (8 * read) (header n ws (Pending (in_of x)))))

abbrev pub signalled : Bool → Signalled
signalled true = Raised
signalled false = Quiet

-- the words after a commit: the read word is the private read index, and the peer's signal is up where the commit raised it
abbrev pub words_given : ℕ → List ℕ → Side → ℕ → List ℕ
words_given n ws x read = slice_set ws (index_of n (Read (in_of x))) (8 * read)

abbrev pub words_committed : ℕ → List ℕ → Side → ℕ → Bool → List ℕ
words_committed n ws x read raised = cond raised (slice_set (words_given n ws x read) (signal_of n (peer_of x)) 1) (words_given n ws x read)
