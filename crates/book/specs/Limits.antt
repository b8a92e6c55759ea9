-- The numbers that documents 01 and 02 fix, each in one place: sizes of the store, lengths of the lent buffers, limits.
use Rattle.std.specs.Prelude.{ℕ}

-- 01: 4,096 rows of 16 bytes, so a log of 65,536 bytes
abbrev pub row_limit : ℕ
row_limit = 4096

abbrev pub row_length : ℕ
row_length = 16

abbrev pub log_length : ℕ
log_length = 65536

-- 01: 32 pages of 32 bytes with 7 cells each, so charts of 1,024 bytes; the copy in RAM is as long
abbrev pub page_limit : ℕ
page_limit = 32

abbrev pub page_length : ℕ
page_length = 32

abbrev pub places : ℕ
places = 7

abbrev pub charts_length : ℕ
charts_length = 1024

-- 01: cells 0 to 223
abbrev pub cell_limit : ℕ
cell_limit = 224

-- 02, L7: visits 1 to 65,535
abbrev pub visit_limit : ℕ
visit_limit = 65535

-- 01: kinds of rows 1 to 6, and 02, L2: kind 7; kind 0 is a blank row
abbrev pub kind_limit : ℕ
kind_limit = 7

-- 01: at most 16 active visits
abbrev pub active_limit : ℕ
active_limit = 16

-- 01: a scope table of 64 entries
abbrev pub scope_limit : ℕ
scope_limit = 64

-- 01: a tail of at most 64 rows
abbrev pub tail_limit : ℕ
tail_limit = 64

-- 01: a format is within ±1,000,000, an opening takes cells within ±200,000,000
abbrev pub format_bound : ℕ
format_bound = 1000000

abbrev pub chart_bound : ℕ
chart_bound = 200000000

-- 01: 4,096 rows move a cell by at most 134,217,728
abbrev pub move_bound : ℕ
move_bound = 134217728

-- 02, L6: "n from 0 to 2,048": no opening writes more rows
abbrev pub cost_limit : ℕ
cost_limit = 2048
