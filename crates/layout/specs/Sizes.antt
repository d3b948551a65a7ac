-- The sizes by name. Each has its constant in the crate's code.
use Rattle.std.specs.Prelude.{◌≡◌, ℕ, ◌%◌, ◌≤◌}

-- the bytes of a page, and of a segment of 32 pages, which is a span of order 5
abbrev pub page : ℕ
page = 4096

abbrev pub segment_pages : ℕ
segment_pages = 32

abbrev pub segment_order : ℕ
segment_order = 5

abbrev pub segment : ℕ
segment = 131072

-- the greatest order of a span, and how many orders there are, from 0 on
abbrev pub greatest_order : ℕ
greatest_order = 19

abbrev pub span_orders : ℕ
span_orders = 20

-- the pages of a shard
abbrev pub fewest_pages : ℕ
fewest_pages = 1280

abbrev pub most_pages : ℕ
most_pages = 524288

-- the most pages of a shard that the program's words can ask for
abbrev pub most_run_pages : ℕ
most_run_pages = 65536

-- the most segments of a shard
abbrev pub most_segments : ℕ
most_segments = 16384

-- a multiple of the pages of a segment, within these bounds
abbrev pub ArePages : ℕ → Type 0
ArePages pages = (fewest_pages ≤ pages) × (pages ≤ most_pages) × (pages % segment_pages ≡ 0)

-- the bytes of a descriptor, and of the least and the greatest object of a segment, descriptor included
abbrev pub descriptor : ℕ
descriptor = 8

abbrev pub least_object : ℕ
least_object = 16

abbrev pub greatest_object : ℕ
greatest_object = 12296

-- a segment with more live bytes than these is dense: a segment less the greatest object
abbrev pub dense : ℕ
dense = 118776

-- the bytes of the greatest block of the small pools
abbrev pub greatest_block : ℕ
greatest_block = 16384

-- the most bytes of a key and of a value, and what a row has beside them: its descriptor and its header
abbrev pub greatest_key : ℕ
greatest_key = 256

abbrev pub greatest_value : ℕ
greatest_value = 12000

abbrev pub row_overhead : ℕ
row_overhead = 40

-- the tables of a shard, numbered from 0
abbrev pub tables : ℕ
tables = 8

-- the fewest pages of a shard whose rows are of tables
abbrev pub fewest_table_pages : ℕ
fewest_table_pages = 1536

-- the most keys that a scan gives
abbrev pub most_keys : ℕ
most_keys = 32

-- the bytes in front of a message's body; the most bytes of a key with its length; the most bytes of a shard's reply to a scan
abbrev pub message_header : ℕ
message_header = 16

abbrev pub key_room : ℕ
key_room = 258

abbrev pub scan_room : ℕ
scan_room = 8272

-- the bytes of the greatest request, that of a put
abbrev pub greatest_request : ℕ
greatest_request = 12272

-- the blocks that a shard may have lent at once, and those among them that are lent for requests
abbrev pub tickets : ℕ
tickets = 32

abbrev pub request_tickets : ℕ
request_tickets = 8

-- the words of a cache line; the words of a list of tickets: its head, a link for each, and a line of words that stay 0
abbrev pub line_words : ℕ
line_words = 8

abbrev pub list_words : ℕ
list_words = 41

-- the packets that the rings of the two lanes hold
abbrev pub request_slots : ℕ
request_slots = 4

abbrev pub reply_slots : ℕ
reply_slots = 8

-- the most bytes of a trace
abbrev pub most_trace_bytes : ℕ
most_trace_bytes = 67108864

-- the pieces of a range that may be allocated at once
abbrev pub most_pieces : ℕ
most_pieces = 32768
