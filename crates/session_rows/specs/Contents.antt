-- The contents of the worked sessions (LSP 3.17), and what some of them are read as.
use Rattle.std.specs.Prelude.{ℕ, List, [], ◌∷◌, ◌++◌, codes, pos, Some}
use Rattle.rpc.specs.Ids.{Ident, numbered}
use Rattle.rpc.specs.Messages.{TextChange}

-- the URI of the document that is asked about, and of another one
abbrev pub uri : List ℕ
uri = codes "a:x"

abbrev pub other_uri : List ℕ
other_uri = codes "a:y"

-- the id that is this number
abbrev pub of : ℕ → Ident
of n = numbered (pos n)

abbrev pub initializes : List ℕ
initializes = codes "{\"jsonrpc\":\"2.0\",\"id\":1,\"method\":\"initialize\",\"params\":{}}"

abbrev pub opens : List ℕ
opens =
    codes "{\"jsonrpc\":\"2.0\",\"method\":\"textDocument/didOpen\","
    ++ codes "\"params\":{\"textDocument\":{\"uri\":\"a:x\",\"languageId\":\"g\",\"version\":1,\"text\":\"\"}}}"

abbrev pub types : List ℕ
types =
    codes "{\"jsonrpc\":\"2.0\",\"method\":\"textDocument/didChange\","
    ++ codes "\"params\":{\"textDocument\":{\"uri\":\"a:x\",\"version\":2},"
    ++ codes "\"contentChanges\":[{\"range\":{\"start\":{\"line\":0,\"character\":0},"
    ++ codes "\"end\":{\"line\":0,\"character\":0}},\"text\":\"12\"},"
    ++ codes "{\"range\":{\"start\":{\"line\":0,\"character\":0},"
    ++ codes "\"end\":{\"line\":0,\"character\":1}},\"text\":\"\"}]}}"

abbrev pub asks : List ℕ
asks = codes "{\"jsonrpc\":\"2.0\",\"id\":2,\"method\":\"lr/text\",\"params\":{\"textDocument\":{\"uri\":\"a:x\"}}}"

abbrev pub shuts_down : List ℕ
shuts_down = codes "{\"jsonrpc\":\"2.0\",\"id\":3,\"method\":\"shutdown\"}"

abbrev pub exits : List ℕ
exits = codes "{\"jsonrpc\":\"2.0\",\"method\":\"exit\"}"

-- `didOpen` of the other document
abbrev pub opens_other : List ℕ
opens_other =
    codes "{\"jsonrpc\":\"2.0\",\"method\":\"textDocument/didOpen\","
    ++ codes "\"params\":{\"textDocument\":{\"uri\":\"a:y\",\"languageId\":\"g\",\"version\":1,\"text\":\"\"}}}"

abbrev pub both_changes : List TextChange
both_changes =
    record {
      range = Some (record { start = record { line = 0; character = 0 }; end = record { line = 0; character = 0 } });
      text = codes "12";
    }
    ∷ record {
      range = Some (record { start = record { line = 0; character = 0 }; end = record { line = 0; character = 1 } });
      text = [];
    }
    ∷ []

-- the bytes of the session in which a text is typed: its contents, each in a frame
abbrev pub session_bytes : List ℕ
session_bytes =
    codes "Content-Length: 58\r\n\r\n" ++ initializes
    ++ codes "Content-Length: 128\r\n\r\n" ++ opens
    ++ codes "Content-Length: 296\r\n\r\n" ++ types
    ++ codes "Content-Length: 83\r\n\r\n" ++ asks
    ++ codes "Content-Length: 44\r\n\r\n" ++ shuts_down
    ++ codes "Content-Length: 33\r\n\r\n" ++ exits
